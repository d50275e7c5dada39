-- What choosing the passes of a tile asks of its lists, and what it gives (rules 3 and 4), over the neighbours asked for.
-- Assumes nothing.
use Rattle.std.specs.Prelude.{List, map, ◌≡◌, ℕ, ◌≤◌, length, take}
use Rattle.lists.specs.Lists.{tab}
use Rattle.pairs.specs.Pairs.{crossing_of, Pairs}
use Rattle.rules.specs.Enough.{AllChosen}
use Rattle.rules.specs.Land.{rule_by}
use Rattle.rules.specs.NodeLabels.{label_of}
use Rattle.rules.specs.Tile.{Tile, tile_land}
use Rattle.rules.specs.Way.{Lawful}
use Rattle.squares.specs.Listing.{pairs_for}
use Rattle.grid.specs.declared.Neighbours.{Neighbours}

-- a tile that is lawful, its labels, and room for each cell's pairs
pub record Choosable (N : Neighbours) (w : ℕ) (heights marks labels list : List ℕ) : Type 0 where
  pub tile : Tile w heights marks
  pub lawful : Lawful (tile_land (rule_by N) w heights marks)
  pub labels_are : labels ≡ tab (length heights) (label_of (tile_land (rule_by N) w heights marks))
  pub room : pairs_for N (length heights) ≤ length list

-- the pairs of the chosen passes, in the order of rule 3
pub record ChosenPairs (N : Neighbours) (w : ℕ) (heights marks pairs : List ℕ) : Type 0 where
  pub chosen : AllChosen (tile_land (rule_by N) w heights marks) (map (crossing_of w) pairs)
  pub neighbours : Pairs w (length heights) pairs

-- what `choose_pairs` promises: the first r entries are the pairs of the chosen passes, of whatever tile with these heights and labels
pub record PairsChosen (N : Neighbours) (w : ℕ) (heights labels before : List ℕ) (r : ℕ) (after : List ℕ) : Type 0 where
  pub within : r ≤ length after
  pub pairs : (marks : List ℕ) → Choosable N w heights marks labels before → ChosenPairs N w heights marks (take r after)
