-- What makes spills carving's levels: labels that tell the nodes of rule 4 apart, with 0 for the outlets', and pairs in the order of rule 3
-- that are enough to find the chosen passes by.
-- Assumes nothing.
use Rattle.std.specs.Prelude.{cond, true, List, map, ◌≡◌, ℕ, ◌+◌, ◌<◌, ◌≤◌, eqb, length}
use Rattle.lists.specs.Ascending.{AscendingBy}
use Rattle.lists.specs.Lists.{at}
use Rattle.pairs.specs.Pairs.{crossing_of, pair_key, Pairs}
use Rattle.rules.specs.Enough.{Suffices}
use Rattle.rules.specs.Ground.{is_outlet}
use Rattle.rules.specs.Land.{rule_by}
use Rattle.rules.specs.NodeLabels.{Labelled}
use Rattle.rules.specs.Tile.{Tile, tile_land}
use Rattle.rules.specs.Way.{Lawful}
use Rattle.grid.specs.declared.Neighbours.{Neighbours}

-- a lawful tile, and such labels and pairs of it
pub record Levelling (N : Neighbours) (w : ℕ) (heights marks labels pairs : List ℕ) : Type 0 where
  pub tile : Tile w heights marks
  pub lawful : Lawful (tile_land (rule_by N) w heights marks)
  pub sized : length labels ≡ length heights
  pub small : (c : ℕ) → c < length labels → at labels c ≤ 4096
  pub labelled : Labelled (tile_land (rule_by N) w heights marks) labels
  pub outlets : (c : ℕ) → c < length labels → is_outlet marks c ≡ true → at labels c ≡ 0
  pub enough : Suffices (tile_land (rule_by N) w heights marks) (map (crossing_of w) pairs)
  pub neighbours : Pairs w (length heights) pairs
  pub ascending : AscendingBy (pair_key w heights) pairs

-- a label of a land of n cells, whose outlets have label n, made one with 0 for the outlets and one more for every other label
abbrev pub outlets_first : (n label : ℕ) → ℕ
outlets_first n label = cond (eqb label n) 0 (label + 1)
