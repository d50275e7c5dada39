-- Enough crossings of a tile as pairs, ascending (rule 3), over the neighbours asked for: what listing them asks of a tile's lists, and what it
-- gives.
-- Assumes nothing.
use Rattle.std.specs.Prelude.{List, map, ◌≡◌, ℕ, ◌*◌, ◌≤◌, length, take}
use Rattle.lists.specs.Ascending.{Ascending}
use Rattle.pairs.specs.Pairs.{crossing_of, Pairs}
use Rattle.rules.specs.Enough.{Suffices}
use Rattle.rules.specs.Land.{rule_by}
use Rattle.rules.specs.NodeLabels.{Labelled}
use Rattle.rules.specs.Tile.{Tile, tile_land}
use Rattle.grid.specs.declared.Neighbours.{Neighbours}
use Rattle.grid.specs.declared.Neighbours.TheVariants.{Eight, Four}

-- so many pairs n cells have at most: each with the cells after it that are its neighbours
abbrev pub pairs_for : Neighbours → ℕ → ℕ
pairs_for Four n = 2 * n
pairs_for Eight n = 4 * n

-- a tile, labels that tell its nodes apart, and room for each cell's pairs
pub record Listable (N : Neighbours) (w : ℕ) (heights labels list : List ℕ) : Type 0 where
  pub marks : List ℕ
  pub tile : Tile w heights marks
  pub sized : length labels ≡ length heights
  pub labelled : Labelled (tile_land (rule_by N) w heights marks) labels
  pub room : pairs_for N (length heights) ≤ length list

-- the first r entries are pairs of neighbours, ascending, and enough crossings of any tile that has these heights and labels
pub record Listed (N : Neighbours) (w : ℕ) (heights labels list' : List ℕ) (r : ℕ) : Type 0 where
  pub within : r ≤ pairs_for N (length heights)
  pub neighbours : Pairs w (length heights) (take r list')
  pub ascending : Ascending (take r list')
  pub suffices : (marks : List ℕ) → Tile w heights marks → Labelled (tile_land (rule_by N) w heights marks) labels
      → Suffices (tile_land (rule_by N) w heights marks) (map (crossing_of w) (take r list'))
