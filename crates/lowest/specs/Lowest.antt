-- The neighbour of lowest level (document 02, W-205): rule 1 where of two ways down the one to the lower cell is the steeper. Its place by least
-- keys, as in first_receivers. Levels stand in a list with 65 entries before and after them, so that every cell has eight entries around it; a
-- mask says which of them are neighbours.
-- Assumes nothing.
use Rattle.std.specs.Prelude.{Bool, cond, true, List, min, suc, zero, ℕ, ◌%◌, ◌*◌, ◌+◌, ◌-◌, ◌/◌, ◌<◌, ◌≤◌, eqb, ltb, length}
use Rattle.grid.specs.Masks.{bit_of, Masks}
use Rattle.grid.specs.Neighbours.{places_by}
use Rattle.grid.specs.Window.{around, beside, Grid}
use Rattle.lists.specs.Lists.{at, fold, stretch}
use Rattle.rules.specs.Land.{Land, Rule}
use Rattle.rules.specs.Tile.{tile_land}
use Rattle.grid.specs.declared.Neighbours.{Neighbours}

-- the neighbours that are asked for, no holes, and the lower of two cells is the steeper way down
abbrev pub lowest_rule : Neighbours → Rule
lowest_rule N =
    record {
      places = places_by N;
      steeper = λ w heights c a b. ltb (at heights a) (at heights b);
      solid = λ mark. true;
    }

-- the land of the levels of n cells in a list with a margin
abbrev pub lowest_land : Neighbours → (w n : ℕ) (levels marks : List ℕ) → Land
lowest_land N w n levels marks = tile_land (lowest_rule N) w (stretch 65 n levels) marks

-- the masks of each cell's neighbours, and marks and levels for as many cells
pub record Levelled (N : Neighbours) (w : ℕ) (masks levels marks : List ℕ) : Type 0 where
  pub grid : Grid w (length masks)
  pub neighbours : Masks around w (length masks) (beside (places_by N) w) masks
  pub margin : length masks + 130 ≤ length levels
  pub lifted : (c : ℕ) → c < length masks → at levels (c + 65) ≤ 16000000
  pub marked : length masks ≤ length marks

-- a mask has this bit
abbrev pub has_bit : (mask bit : ℕ) → Bool
has_bit mask bit = eqb (mask / bit % 2) 1

-- the key of a level at the place of a bit, 0 for the cell itself. A level has 24 bits
abbrev pub key_of : (level bit : ℕ) → ℕ
key_of level bit = 256 * (level % 16777216) + bit

-- the key at a place: that of entry d where there is a neighbour, and elsewhere one that is never the least
abbrev pub place_key : (levels : List ℕ) (mask d bit : ℕ) → ℕ
place_key levels mask d bit = cond (has_bit mask bit) (key_of (at levels d) bit) 4294967295

-- what stands at place p of the window around entry i
abbrev pub entry_at : (w i : ℕ) → ℕ → ℕ
entry_at w i zero = i - w - 1
entry_at w i (suc zero) = i - w
entry_at w i (suc (suc zero)) = i - w + 1
entry_at w i (suc (suc (suc zero))) = i - 1
entry_at w i (suc (suc (suc (suc zero)))) = i
entry_at w i (suc (suc (suc (suc (suc zero))))) = i + 1
entry_at w i (suc (suc (suc (suc (suc (suc zero)))))) = i + w - 1
entry_at w i (suc (suc (suc (suc (suc (suc (suc zero))))))) = i + w
entry_at w i (suc (suc (suc (suc (suc (suc (suc (suc p)))))))) = i + w + 1

-- entry i has a window around it
pub record Windowed (levels : List ℕ) (w i : ℕ) : Type 0 where
  pub above : w < i
  pub below : i + w + 1 < length levels

-- the least key of entry i and of its neighbours at these places
unfoldable pub lowest_key : (levels : List ℕ) (w i mask : ℕ) (places : List ℕ) → ℕ
lowest_key levels w i mask places = fold (λ k p. min k (place_key levels mask (entry_at w i p) (bit_of around p))) (key_of (at levels i) 0) places

-- the weight of entry i; 0 for an outlet
unfoldable pub weight_at : Neighbours → (levels : List ℕ) (w i mask mark : ℕ) → ℕ
weight_at N levels w i mask mark = cond (eqb mark 1) 0 (lowest_key levels w i mask (places_by N) % 256)
