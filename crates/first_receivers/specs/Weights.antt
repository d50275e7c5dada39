-- Rule 1 by least keys: 256 times a cell's height and the bit of its place, 0 for the cell itself. Ascending bits are ascending cells, so of
-- the cells at the sides the least key is that of the lowest, and of equally low ones that of the first. So it is at the corners, and then the
-- steeper of the two is taken.
-- Assumes nothing.
use Rattle.std.specs.Prelude.{◌≡◌, ℕ, zero, suc, ◌+◌, ◌-◌, ◌*◌, ◌/◌, ◌%◌, ◌<◌, ◌≤◌, min, Bool, cond, List, length, ◌≢◌, nat_lt}
use Rattle.grid.specs.Masks.{bit_of, leads, Masks}
use Rattle.grid.specs.Neighbours.{places_by}
use Rattle.grid.specs.Sides.{above, below}
use Rattle.grid.specs.Window.{around, cell_or, corners, sides, Stands}
use Rattle.lists.specs.Lists.{at, filled, fold, ◌∈◌}
use Rattle.rules.specs.FirstWays.{first_receiver}
use Rattle.rules.specs.Ground.{is_outlet}
use Rattle.rules.specs.Land.{Land, rule_by}
use Rattle.rules.specs.Tile.{Tile, tile_land}
use Rattle.grid.specs.declared.Neighbours.{Neighbours}
use Rattle.grid.specs.declared.Neighbours.TheVariants.{Eight, Four}

-- d is c's first receiver
abbrev pub first_is : Land → ℕ → ℕ → Bool
first_is L = leads (first_receiver L)

-- the key of cell d at the place of this bit
abbrev pub key : List ℕ → ℕ → ℕ → ℕ
key heights d bit = 256 * at heights d + bit

-- the least key of cell c and of those taken for these places of its window
abbrev pub least_key : (heights : List ℕ) (taken : ℕ → ℕ) (c : ℕ) (places : List ℕ) → ℕ
least_key heights taken c places = fold (λ k p. min k (key heights (taken p) (bit_of around p))) (key heights c 0) places

-- how far the cell of a key lies below a height
abbrev pub drop_to : (height k : ℕ) → ℕ
drop_to height k = height - k / 256

-- of two keys, of a straight drop and of a diagonal one, that of the steeper
abbrev pub steeper_key : (height straight diagonal : ℕ) → ℕ
steeper_key height straight diagonal =
    cond (nat_lt (2 * (drop_to height straight * drop_to height straight)) (drop_to height diagonal * drop_to height diagonal)) diagonal straight

-- of four neighbours only straight ones count
abbrev pub key_by : Neighbours → (height straight diagonal : ℕ) → ℕ
key_by Four height straight diagonal = straight
key_by Eight height straight diagonal = steeper_key height straight diagonal

-- the cells that are taken for the places of c's window, by those above, left, right and below: beside u and d as far as beside c
abbrev pub taken : (c u l r d : ℕ) → ℕ → ℕ
taken c u l r d zero = u - (c - l)
taken c u l r d (suc zero) = u
taken c u l r d (suc (suc zero)) = u + (r - c)
taken c u l r d (suc (suc (suc zero))) = l
taken c u l r d (suc (suc (suc (suc zero)))) = c
taken c u l r d (suc (suc (suc (suc (suc zero))))) = r
taken c u l r d (suc (suc (suc (suc (suc (suc zero)))))) = d - (c - l)
taken c u l r d (suc (suc (suc (suc (suc (suc (suc zero))))))) = d
taken c u l r d (suc (suc (suc (suc (suc (suc (suc (suc p)))))))) = d + (r - c)

-- the key of the steepest way down, by the cells that are taken. A side that the tile has not is c itself, whose key is never the least. A corner
-- that it has not is a cell at a side, or c: then a straight drop is as great, and steeper
abbrev pub steepest_by : Neighbours → (heights : List ℕ) (taken : ℕ → ℕ) (c : ℕ) → ℕ
steepest_by N heights taken c = key_by N (at heights c) (least_key heights taken c sides) (least_key heights taken c corners)

unfoldable pub steepest_key : Neighbours → (heights : List ℕ) (c u l r d : ℕ) → ℕ
steepest_key N heights c u l r d = steepest_by N heights (taken c u l r d) c

-- the weight by these cells; 0 for an outlet
unfoldable pub weight_by : Neighbours → (heights marks : List ℕ) (c u l r d : ℕ) → ℕ
weight_by N heights marks c u l r d = cond (is_outlet marks c) 0 (steepest_key N heights c u l r d % 256)

-- the weight of a tile's cell c
abbrev pub weight : Neighbours → (w : ℕ) (heights marks : List ℕ) → ℕ → ℕ
weight N w heights marks c =
    let n = length heights in
    weight_by N heights marks c (cell_or w n c 1) (cell_or w n c 3) (cell_or w n c 5) (cell_or w n c 7)

-- of n cells, c and those above, left, right and below; beside u and d there is as much room as beside c
pub record Crossed (n c u l r d : ℕ) : Type 0 where
  pub on : c < n
  pub left : l ≤ c
  pub right : c ≤ r
  pub right_on : r < n
  pub up_west : c - l ≤ u
  pub up_east : u + (r - c) < n
  pub down_west : c - l ≤ d
  pub down_east : d + (r - c) < n

-- a row that starts at b, and the rows beside it; the row itself for one that the tile has not
pub record Row (w n b up down : ℕ) : Type 0 where
  pub start : b % w ≡ 0
  pub fits : b + w ≤ n
  pub up_is : up ≡ above w b
  pub up_low : up ≤ b
  pub down_is : down ≡ below w n b
  pub down_fits : down + w ≤ n

-- weight k leads from c to d: to itself, or to what stands at one of the rule's places
pub data Placed (N : Neighbours) (w n c : ℕ) : ℕ → ℕ → Type 0 where
  itself : {d k : ℕ} → d ≡ c → k ≡ 0 → Placed N w n c d k
  beside : {d k p : ℕ} → p ∈ places_by N → Stands w n c p d → k ≡ bit_of around p → Placed N w n c d k

-- what is found where a weight may be a corner's: the cell there, on any tile that has it; otherwise what stands for a side
pub record LedToCorner (w c k side r : ℕ) : Type 0 where
  pub corner : (n d p : ℕ) → n ≤ 4096 → p ∈ corners → Stands w n c p d → k ≡ bit_of around p → r ≡ d
  pub no_corner : ((p : ℕ) → p ∈ corners → k ≢ bit_of around p) → r ≡ side

-- the weights of a tile's n cells
pub record Weighed (N : Neighbours) (w n : ℕ) (heights marks weights : List ℕ) : Type 0 where
  pub tile : Tile w heights marks
  pub sized : length heights ≡ n
  pub masks : Masks around w n (first_is (tile_land (rule_by N) w heights marks)) weights

-- what `first_receivers` promises: the first receivers of n cells, of whatever tile the weights are
abbrev pub FirstsFound : (N : Neighbours) (w n : ℕ) (weights before after : List ℕ) → Type 0
FirstsFound N w n weights before after =
    (heights marks : List ℕ) → Weighed N w n heights marks weights → after ≡ filled (first_receiver (tile_land (rule_by N) w heights marks)) n before
