-- What every stage of the network asks of a tile's lists: lifted heights and marks, in whole rows of w cells.
-- Assumes nothing.
use Rattle.std.specs.Prelude.{true, List, ◌≡◌, ℕ, ◌≤◌, length}
use Rattle.grid.specs.Window.{Grid, IsRule}
use Rattle.lists.specs.Lists.{at}
use Rattle.rules.specs.Land.{Land, Rule, tile}
use Rattle.rules.specs.Way.{Lawful}

pub record Tile (w : ℕ) (heights marks : List ℕ) : Type 0 where
  pub grid : Grid w (length heights)
  pub marked : length marks ≡ length heights
  pub lifted : (c : ℕ) → at heights c ≤ 16000000

-- the land of a tile's lists
abbrev pub tile_land : Rule → (w : ℕ) (heights marks : List ℕ) → Land
tile_land R w heights marks = tile R w (length heights) heights marks

-- a rule, and a lawful tile without holes
pub record LawfulTile (R : Rule) (w : ℕ) (heights marks : List ℕ) : Type 0 where
  pub is_rule : IsRule R.places
  pub tile : Tile w heights marks
  pub lawful : Lawful (tile_land R w heights marks)
  pub whole : (c : ℕ) → (tile_land R w heights marks).solid c ≡ true
