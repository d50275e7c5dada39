-- The links of sheet flow (W-205): what the parts of the stage ask for, and what the whole promises.
-- Assumes nothing.
use Rattle.std.specs.Prelude.{◌≡◌, ℕ, ◌≤◌, List, length}
use Rattle.first_receivers.specs.Weights.{first_is}
use Rattle.grid.specs.Masks.{leads, mask_of, Masks}
use Rattle.grid.specs.Neighbours.{places_by}
use Rattle.grid.specs.Window.{around, beside}
use Rattle.lists.specs.Lists.{at, filled}
use Rattle.lowest.specs.Lowest.{lowest_rule}
use Rattle.rules.specs.Land.{Land, rule_by}
use Rattle.rules.specs.Network.{carved_levels, receivers_by}
use Rattle.rules.specs.Sheet.{sheet_receivers}
use Rattle.rules.specs.Tile.{LawfulTile, Tile, tile_land}
use Rattle.spread.specs.Steps.{alike}
use Rattle.walk.specs.Walk.{Margin}
use Rattle.grid.specs.declared.Neighbours.{Neighbours}
use Rattle.rules.specs.declared.Manner.TheVariants.{Sheet}

-- the land of levels: nothing of sheet flow depends on heights
abbrev pub level_tile : Neighbours → (w : ℕ) (levels marks : List ℕ) → Land
level_tile N w levels marks = tile_land (lowest_rule N) w levels marks

-- where a cell leads to
abbrev pub sheet_lead : Neighbours → (w : ℕ) (levels marks : List ℕ) → ℕ → ℕ
sheet_lead N w levels marks = at (sheet_receivers (level_tile N w levels marks) levels)

-- weights that lead to the lowest neighbours, and masks of the neighbours of a cell's own level
pub record Lowered (N : Neighbours) (w : ℕ) (levels marks weights likes : List ℕ) : Type 0 where
  pub tile : Tile w levels marks
  pub lowest : Masks around w (length levels) (first_is (level_tile N w levels marks)) weights
  pub level : Masks around w (length levels) (alike (beside (places_by N) w) (at levels)) likes
  pub full : length likes ≡ length levels
  pub room : length levels ≤ length weights

-- weights that lead where sheet flow does, by whatever levels these masks say
abbrev pub LevelsStepped : (N : Neighbours) (w : ℕ) (marks likes before after : List ℕ) → Type 0
LevelsStepped N w marks likes before after =
    (levels : List ℕ) → Lowered N w levels marks before likes
    → after ≡ filled (mask_of around w (length levels) (leads (sheet_lead N w levels marks))) (length levels) before

-- carving's levels of a lawful tile
pub record Carved (N : Neighbours) (w : ℕ) (heights levels marks : List ℕ) : Type 0 where
  pub tile : LawfulTile (rule_by N) w heights marks
  pub levels_are : levels ≡ carved_levels (tile_land (rule_by N) w heights marks)

-- what `link_sheet` promises: the links of sheet flow, of whatever heights the levels are
abbrev pub SheetLinked : (N : Neighbours) (w : ℕ) (levels marks links : List ℕ) → Type 0
SheetLinked N w levels marks links =
    (heights : List ℕ) → Carved N w heights levels marks
    → Margin (rule_by N) w heights marks links (receivers_by Sheet (tile_land (rule_by N) w heights marks))
