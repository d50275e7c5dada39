-- What the stages of the network hand on to each other, over any rule.
-- Assumes nothing.
use Rattle.std.specs.Prelude.{List, ◌≡◌, ℕ, ◌≤◌, length}
use Rattle.grid.specs.Masks.{joined, Masks}
use Rattle.grid.specs.Window.{around}
use Rattle.lists.specs.Lists.{filled, tab}
use Rattle.rules.specs.Carving.{receivers}
use Rattle.rules.specs.FirstWays.{basin, first_receiver}
use Rattle.rules.specs.Land.{Rule, rule_by}
use Rattle.rules.specs.Links.{Linkage}
use Rattle.rules.specs.NodeLabels.{label_of}
use Rattle.rules.specs.Tile.{LawfulTile, tile_land}
use Rattle.walk.specs.Walk.{Margin}
use Rattle.grid.specs.declared.Neighbours.{Neighbours}

-- a lawful tile, its labels, and the masks of its first receivers
pub record Linkable (R : Rule) (w : ℕ) (heights marks labels links : List ℕ) : Type 0 where
  pub land : LawfulTile R w heights marks
  pub labels_are : labels ≡ tab (length heights) (label_of (tile_land R w heights marks))
  pub room : length heights ≤ length links
  pub masks : Masks around w (length heights) (joined (first_receiver (tile_land R w heights marks))) links

-- what linking the passes promises: the links of the network, of whatever tile has these labels and masks
abbrev pub PassesLinked : Neighbours → (w : ℕ) (heights labels before after : List ℕ) → Type 0
PassesLinked N w heights labels before after =
    (marks : List ℕ) → Linkable (rule_by N) w heights marks labels before
    → Linkage (rule_by N) w heights marks after (receivers (tile_land (rule_by N) w heights marks))

-- what finding the links promises: the basins at the start of the list that was lent for them, and the links of the network
pub record LinksFound (N : Neighbours) (w : ℕ) (heights marks before basins links : List ℕ) : Type 0 where
  pub basins_are : basins ≡ filled (basin (tile_land (rule_by N) w heights marks)) (length heights) before
  pub linkage : Linkage (rule_by N) w heights marks links (receivers (tile_land (rule_by N) w heights marks))

-- what linking the cells leaves and the walk asks: the links of the network, with a margin on both sides of them
abbrev pub Linked : Rule → (w : ℕ) (heights marks links : List ℕ) → Type 0
Linked R w heights marks links = Margin R w heights marks links (receivers (tile_land R w heights marks))

-- and the basins at the start of the list that was lent for them
pub record CellsLinked (R : Rule) (w : ℕ) (heights marks before basins links : List ℕ) : Type 0 where
  pub basins_are : basins ≡ filled (basin (tile_land R w heights marks)) (length heights) before
  pub links_are : Linked R w heights marks links
