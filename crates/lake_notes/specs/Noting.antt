-- What noting the wet cells of a tile leaves.
-- Assumes nothing.
use Rattle.std.specs.Prelude.{List, ◌≡◌, ℕ, ◌≤◌, length}
use Rattle.grid.specs.Window.{Grid}
use Rattle.lake_rules.specs.Lakes.{wet_cells}
use Rattle.lake_rules.specs.Notes.{Notes}
use Rattle.lists.specs.Lists.{at, overwrite}
use Rattle.rules.specs.Land.{Land}

-- lifted heights in whole rows of w cells, and a lifted level for each
pub record Levelled (w : ℕ) (heights levels : List ℕ) : Type 0 where
  pub grid : Grid w (length heights)
  pub heights_lifted : (c : ℕ) → at heights c ≤ 16000000
  pub levels_hold : length levels ≡ length heights
  pub levels-lifted : (c : ℕ) → at levels c ≤ 16000000

-- the wet cells stand at the start of a list, `count` of them, and their notes in three others
pub record Noted (L : Land) (heights levels before cells flags parents joins : List ℕ) (count : ℕ) : Type 0 where
  pub count_is : count ≡ length (wet_cells L levels)
  pub cells_are : cells ≡ overwrite (wet_cells L levels) before
  pub notes : Notes L (wet_cells L levels) heights flags parents joins
