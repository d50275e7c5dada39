-- What linking the cells of a record leaves and walking them asks, over the neighbours asked for.
-- Assumes nothing.
use Rattle.std.specs.Prelude.{List, map, ◌≡◌, ℕ, ◌*◌, take}
use Rattle.ground.specs.Record.{ground_in}
use Rattle.lists.specs.Lists.{overwrite}
use Rattle.rules.specs.Ground.{lifted}
use Rattle.rules.specs.Land.{rule_by}
use Rattle.rules.specs.Network.{lifted_network_by}
use Rattle.stages.specs.Linking.{Linked}
use Rattle.grid.specs.declared.Neighbours.{Neighbours}
use Rattle.rules.specs.declared.Manner.TheVariants.{Carve}

-- the lifted heights of the ground of w by h cells in record s stand at the start of a list, and the links of its network in another
pub record LinkedRecord (N : Neighbours) (s : List ℕ) (w h : ℕ) (heights links : List ℕ) : Type 0 where
  pub heights_are : take (h * w) heights ≡ map lifted (ground_in s w h).heights
  pub linked : Linked (rule_by N) w (map lifted (ground_in s w h).heights) (ground_in s w h).marks links

-- and its basins, carving's, at the start of the list that was lent for them
pub record RecordLinked (N : Neighbours) (s : List ℕ) (w h : ℕ) (before heights basins links : List ℕ) : Type 0 where
  pub linked : LinkedRecord N s w h heights links
  pub basins_are : basins ≡ overwrite (lifted_network_by N Carve (ground_in s w h)).basins before
