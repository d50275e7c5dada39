-- The walk's stack: what an entry holds, and what a visit pushes, by the places around a cell.
-- The stack grows towards its first place. Only what stands from the top on counts: what was written above the top and not kept is
-- overwritten by the next.
-- Assumes nothing.
use Rattle.std.specs.Prelude.{◌≡◌, ℕ, zero, suc, ◌+◌, ◌-◌, ◌*◌, ◌/◌, ◌%◌, ◌^◌, ◌<◌, cond, List, [], ◌∷◌, ◌++◌, map, length, drop, ◌==◌}
use Rattle.grid.specs.Masks.{bit_of, mask_of}
use Rattle.grid.specs.Window.{around}
use Rattle.lists.specs.Lists.{at}
use Rattle.rules.specs.Land.{Land}
use Rattle.rules.specs.Network.{gives, outlets}
use Rattle.walk.specs.Walk.{Lent}
use Rattle.grid.specs.declared.Neighbours.{Neighbours}
use Rattle.grid.specs.declared.Neighbours.TheVariants.{Eight, Four}

-- an entry holds a receiver, a cell below 4096 and a mask of 8 bits in one number
abbrev pub entry : (receiver c mask : ℕ) → ℕ
entry receiver c mask = (4096 * receiver + c) * 256 + mask

abbrev pub receiver_in : ℕ → ℕ
receiver_in e = e / 256 / 4096

abbrev pub cell_in : ℕ → ℕ
cell_in e = e / 256 % 4096

abbrev pub mask_in : ℕ → ℕ
mask_in e = e % 256

-- the entry of cell c: its receiver, and the mask of the cells that receive to it
abbrev pub entry_of : (w : ℕ) → Land → List ℕ → ℕ → ℕ
entry_of w L r c = entry (at r c) c (mask_of around w L.cells (gives L r) c)

-- an outlet's entry: it is its own receiver, and all its links are with cells that receive to it
abbrev pub outlet_entry : (links : List ℕ) → ℕ → ℕ
outlet_entry links c = entry c c (at links (c + 65))

-- an entry made from the visited cell's own number in both parts, what lies between and the neighbour's links: sums that may wrap
abbrev pub shifted : (own between link : ℕ) → ℕ
shifted own between link = ((own + between) % 2 ^ 32 + link) % 2 ^ 32

-- what lies between: the way to the neighbour at place p, less the bit back
abbrev pub between : (w p : ℕ) → ℕ
between w p = ((p / 3 * w + p % 3) * 256 + (2 ^ 32 - (w + 1) * 256) - bit_of around (8 - p)) % 2 ^ 32

-- where the neighbour's links stand
abbrev pub links_at : (w c p : ℕ) → ℕ
links_at w c p = c + 65 + p / 3 * w + p % 3 - (w + 1)

-- the entry for the neighbour of c at place p
abbrev pub beside_entry : (w : ℕ) (links : List ℕ) (c p : ℕ) → ℕ
beside_entry w links c p = shifted (entry c c 0) (between w p) (at links (links_at w c p))

-- the entry alone where its bit is 1
abbrev pub kept : (bit e : ℕ) → List ℕ
kept bit e = cond (bit == 1) (e ∷ []) []

-- of the entries f of places, those whose bits the mask has, the first place's bit lowest
abbrev pub kept_of : (ℕ → ℕ) → List ℕ → ℕ → List ℕ
kept_of f [] mask = []
kept_of f (p ∷ ps) mask = kept (mask % 2) (f p) ++ kept_of f ps (mask / 2)

-- how many: the bits of the mask
unfoldable pub ones : List ℕ → ℕ → ℕ
ones [] mask = 0
ones (p ∷ ps) mask = mask % 2 + ones ps (mask / 2)

-- what a visit pushes: the neighbours of the mask, by ascending number from the top on
unfoldable pub pushes : (w : ℕ) (links : List ℕ) (c mask : ℕ) → List ℕ
pushes w links c mask = kept_of (beside_entry w links c) around mask

-- three places in one row of the window, and what f says of each
abbrev pub in_row : List ℕ
in_row = 0 ∷ 1 ∷ 2 ∷ []

abbrev pub one_of : (left middle right : ℕ) → ℕ → ℕ
one_of left middle right zero = left
one_of left middle right (suc zero) = middle
one_of left middle right (suc (suc p)) = right

-- of four neighbours no bits of corners are set: in a row above or below, and in all of the mask
abbrev pub RowAsked : Neighbours → ℕ → Type 0
RowAsked Four mask = (mask % 2 ≡ 0) × (mask / 4 % 2 ≡ 0)
RowAsked Eight mask = Unit {0}

abbrev pub MaskAsked : Neighbours → ℕ → Type 0
MaskAsked N mask = RowAsked N (mask % 8) × RowAsked N (mask / 32)

-- the walk may begin: the outlets' entries stand on the stack by ascending number, and heights in the place of levels
pub record Ready (w : ℕ) (L : Land) (r : List ℕ) (s : Lent) (t : ℕ) : Type 0 where
  pub top : t + length (outlets L) ≡ L.cells
  pub stacked : drop t s.stack ≡ map (entry_of w L r) (outlets L) ++ drop L.cells s.stack
  pub heights-noted : (c : ℕ) → c < L.cells → at s.levels c ≡ L.height c
