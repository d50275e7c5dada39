-- Enough crossings of a tile as pairs, by its squares of four cells (rule 3):
--   a  b      c      c + 1
--   d  e      c + w  c + w + 1
-- A square leaves out crossings that are the greatest of a ring of its cells, which are never chosen (rules/proofs/Rings): with document 01's
-- neighbours the greatest of the four sides, and with corners that of each triangle. A basin goes by its label here: two cells have one label
-- exactly if their basins are one node of rule 4.
-- Assumes nothing.
use Rattle.std.specs.Prelude.{Bool, cond, not, ◌&&◌, [], List, ◌++◌, ◌∷◌, ◌⊎◌, ◌≡◌, max, min, suc, zero, ℕ, ◌%◌, ◌*◌, ◌+◌, ◌-◌, ◌/◌, ◌<◌, ◌≤◌, ◌^◌, eqb, ltb}
use Rattle.std.specs.Prelude.{length}
use Rattle.lists.specs.Lists.{at, keep, upto}
use Rattle.lists.specs.Stores.{Packs}
use Rattle.grid.specs.declared.Neighbours.{Neighbours}
use Rattle.grid.specs.declared.Neighbours.TheVariants.{Eight, Four}
use Rattle.squares.specs.declared.Side.{Side}

-- a pair of the square as a key: 0 where its two cells have one label, otherwise 64 times the crossing's height and the pair's bit. The bits
-- are 1 of a and b, 2 of a and d, 4 of a and e, 8 of b and d, 16 of b and e, 32 of d and e: so rule 3 orders crossings of one height
abbrev pub cross_key : (la lb ha hb bit : ℕ) → ℕ
cross_key la lb ha hb bit = cond (eqb la lb) 0 (64 * max ha hb + bit)

-- the mask has this bit
abbrev pub has_bit : (mask bit : ℕ) → Bool
has_bit mask bit = eqb (mask / bit % 2) 1

-- the bit of a pair that is greater than both others of one of its two triangles
abbrev pub beaten : (x a a' b b' bit : ℕ) → ℕ
beaten x a a' b b' bit = cond (ltb (min (max a a') (max b b')) x) bit 0

-- every pair that is the greatest of a triangle
unfoldable pub of_triangles : (ab ad ae bd be de : ℕ) → ℕ
of_triangles ab ad ae bd be de =
    beaten ab ad bd ae be 1 + beaten ad ab bd ae de 2 + beaten ae ab be ad de 4 + beaten bd ab ad be de 8 + beaten be ab ae bd de 16
    + beaten de ad ae bd be 32

-- what is left out: the greatest of the four sides, or these
abbrev pub left_out : Neighbours → (ab ad ae bd be de : ℕ) → ℕ
left_out Four ab ad ae bd be de = max (max ab ad) (max be de) % 64
left_out Eight ab ad ae bd be de = of_triangles ab ad ae bd be de

module _ (N : Neighbours) (w : ℕ) (heights labels : List ℕ) where
  abbrev pub key_between : ℕ → ℕ → ℕ → ℕ
  key_between a b bit = cross_key (at labels a) (at labels b) (at heights a) (at heights b) bit

  -- what the square that begins at c leaves out
  unfoldable pub square : ℕ → ℕ
  square c =
      left_out N (key_between c (c + 1) 1) (key_between c (c + w) 2) (key_between c (c + w + 1) 4) (key_between (c + 1) (c + w) 8)
      (key_between (c + 1) (c + w + 1) 16) (key_between (c + w) (c + w + 1) 32)

  -- the same for every cell. Where no square begins, the pairs that the tile has not are left out: at the end of a row those with the cell to
  -- the right, and 8, of the cell to the right with the one below; in the last row only the latter
  unfoldable pub square_at : ℕ → ℕ
  square_at c = cond (ltb (c % w + 1) w) (cond (ltb (c + w) (length heights)) (square c) 8) 13

-- the squares of all cells after a margin of 64 places, at which none begins
abbrev pub margined : (ℕ → ℕ) → ℕ → ℕ
margined square i = cond (ltb i 64) 8 (square (i - 64))

-- a cell's pairs by number, on a tile w wide: to the right, below to the left, below, below to the right
abbrev pub side_at : (w i : ℕ) → Side
side_at w zero = record { on = 1; first = 0; here = 1; second = w; there = 32; bit = 1 }
side_at w (suc zero) = record { on = w - 1; first = 1; here = 8; second = 1; there = 8; bit = 2 }
side_at w (suc (suc zero)) = record { on = w; first = 0; here = 2; second = 1; there = 16; bit = 4 }
side_at w (suc (suc (suc i))) = record { on = w + 1; first = 0; here = 4; second = 0; there = 4; bit = 8 }

-- two labels differ, and neither of two squares leaves the pair out
abbrev pub kept_by : (a b s x t y : ℕ) → Bool
kept_by a b s x t y = not (eqb a b) && (not (has_bit s x) && not (has_bit t y))

module _ (S : Side) (n : ℕ) (labels : List ℕ) (squares : ℕ → ℕ) where
  -- the pair of cell c is kept, by the squares after their margin
  unfoldable pub keeps : ℕ → Bool
  keeps c =
      ltb (c + S.on) n
      && kept_by (at labels c) (at labels (c + S.on)) (squares (c + 64 - S.first)) S.here (squares (c + 64 - S.second)) S.there

  -- its bit where it is kept, otherwise 0
  abbrev pub flag : ℕ → ℕ
  flag c = cond (keeps c) S.bit 0

-- the flag of a cell: the bits of its straight pairs and of its diagonal ones that are kept
module _ (w n : ℕ) (labels : List ℕ) (squares : ℕ → ℕ) (c : ℕ) where
  abbrev pub side_flags : ℕ
  side_flags = flag (side_at w 0) n labels squares c + flag (side_at w 2) n labels squares c

  abbrev pub corner_flags : ℕ
  corner_flags = flag (side_at w 1) n labels squares c + flag (side_at w 3) n labels squares c

abbrev pub flag_by : Neighbours → (w n : ℕ) (labels : List ℕ) (squares : ℕ → ℕ) → ℕ → ℕ
flag_by Four w n labels squares c = side_flags w n labels squares c
flag_by Eight w n labels squares c = side_flags w n labels squares c + corner_flags w n labels squares c

-- of four neighbours a flag has no bits of diagonal pairs
abbrev pub FlagAsked : Neighbours → ℕ → Type 0
FlagAsked Four flag = (flag / 2 % 2 ≡ 0) × (flag / 8 % 2 ≡ 0)
FlagAsked Eight flag = Unit {0}

-- the number p alone where its bit is 1
abbrev pub counted : (p bit : ℕ) → List ℕ
counted p bit = cond (eqb bit 1) (p ∷ []) []

-- what is packed in a list of r entries is what was packed in one of k, and p where its bit is 1
abbrev pub Packed : (p bit : ℕ) (old : List ℕ) (k : ℕ) (new : List ℕ) (r : ℕ) → Type 0
Packed p bit old k new r = (l : List ℕ) → Packs l old k → Packs (l ++ counted p bit) new r

-- with eight neighbours there is room for a diagonal pair, and with four there is no such pair
abbrev pub CornerRoom : Neighbours → (bit k len : ℕ) → Type 0
CornerRoom Four bit k len = bit ≡ 0
CornerRoom Eight bit k len = k < len

-- the pairs of cell c that its flag has bits of
abbrev pub pairs_at : (c flag : ℕ) → List ℕ
pairs_at c flag =
    counted (4 * c) (flag % 2) ++ (counted (4 * c + 1) (flag / 2 % 2) ++ (counted (4 * c + 2) (flag / 4 % 2) ++ counted (4 * c + 3) (flag / 8 % 2)))

-- the bit of a flag that says of its cell's pair number i whether it is kept
abbrev pub bit_at : (i flag : ℕ) → ℕ
bit_at i flag = flag / 2 ^ i % 2

abbrev pub flagged : (ℕ → ℕ) → ℕ → Bool
flagged flags p = eqb (bit_at (p % 4) (flags (p / 4))) 1

-- the flagged pairs of n cells, ascending
unfoldable pub pairs_of : ℕ → (ℕ → ℕ) → List ℕ
pairs_of n flags = keep (flagged flags) (upto (4 * n))

-- the entry that ends each row is 13, and every other is as it was
pub record Ends (w n : ℕ) (old new : List ℕ) : Type 0 where
  pub long : length new ≡ length old
  pub last : (k : ℕ) → k < n → w ≤ k % w + 1 → at new k ≡ 13
  pub rest : (k : ℕ) → (n ≤ k) ⊎ (k % w + 1 < w) → at new k ≡ at old k

-- n cells have a label and a flag each, and squares after a margin
abbrev pub Flaggable : (n labels squares flags : ℕ) → Type 0
Flaggable n labels squares flags = (n ≤ 4096) × (n ≤ labels) × (n + 64 ≤ squares) × (n ≤ flags)

-- heights that keys have room for, of at most 4,096 cells
abbrev pub Keyable : List ℕ → Type 0
Keyable heights = (length heights ≤ 4096) × ((c : ℕ) → at heights c ≤ 16000000)
