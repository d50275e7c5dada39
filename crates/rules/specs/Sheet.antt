-- W-205 of document 02: the second manner, sheet flow, over a land and its levels (those of carving, see Network.antt).
-- Assumes nothing.
use Rattle.std.specs.Prelude.{Bool, cond, ◌&&◌, ◌||◌, List, suc, ℕ, eqb, ltb}
use Rattle.lists.specs.Find.{find}
use Rattle.lists.specs.Lists.{any, at, tab}
use Rattle.rules.specs.FirstWays.{first_receiver, neighbours, no_cell}
use Rattle.rules.specs.Land.{Land}
use Rattle.spread.specs.Steps.{alike, fewest}

-- the land with levels for heights, where the way down to the lower of two cells is the steeper
abbrev pub level_land : Land → List ℕ → Land
level_land L levels =
    record {
      cells = L.cells;
      height = λ c. at levels c;
      outlet = L.outlet;
      solid = L.solid;
      beside = L.beside;
      steeper = λ c a b. ltb (at levels a) (at levels b);
    }

-- c has a neighbour of strictly lower level
unfoldable pub falls : Land → List ℕ → ℕ → Bool
falls L levels c = any (λ d. ltb (at levels d) (at levels c)) (neighbours L c)

-- where a count ends: at an outlet, or at a cell with a strictly lower neighbour level
unfoldable pub ends_count : Land → List ℕ → ℕ → Bool
ends_count L levels c = L.outlet c || falls L levels c

-- the fewest steps to such a cell, through neighbours of c's own level
unfoldable pub count : Land → List ℕ → ℕ → ℕ
count L levels c = fewest L.cells (alike L.beside (at levels)) (ends_count L levels) c

-- of the neighbours of c's level the one whose count is one less, least number first
unfoldable pub level_step : Land → (levels counts : List ℕ) → ℕ → ℕ
level_step L levels counts c =
    find (λ d. alike L.beside (at levels) c d && eqb (suc (at counts d)) (at counts c)) L.cells

-- an outlet's receiver is its own number, and a hole has none. A cell that falls receives to the neighbour of lowest level, least number
-- first: by rule 1, on the land of levels. Any other receives to a neighbour of its level
unfoldable pub sheet_receiver : Land → (levels counts : List ℕ) → ℕ → ℕ
sheet_receiver L levels counts c =
    cond (L.solid c)
    (cond (L.outlet c) c (cond (falls L levels c) (first_receiver (level_land L levels) c) (level_step L levels counts c)))
    no_cell

-- the receivers of all cells
unfoldable pub sheet_receivers : Land → (levels : List ℕ) → List ℕ
sheet_receivers L levels = tab L.cells (sheet_receiver L levels (tab L.cells (count L levels)))
