-- What the listing of all outermost lakes is worked out from, and what it leaves.
-- Assumes nothing.
use Rattle.std.specs.Prelude.{Bool, [], List, map, Result, ◌≡◌, ℕ, ◌≤◌, ltb, length, take}
use Rattle.lake_list.specs.declared.Row.{Row}
use Rattle.lake_list.specs.declared.TooDeep.{TooDeep}
use Rattle.lake_list.specs.Rows.{found_of, row_of}
use Rattle.lake_rules.specs.Lakes.{depth, Lake, lakes_of, level_of, wet_cells}
use Rattle.lake_rules.specs.LocalLevels.{Local}
use Rattle.lake_rules.specs.Notes.{highest, Notes}
use Rattle.lists.specs.Lists.{at, flat, keep}
use Rattle.rules.specs.Land.{Land}

-- the wet cells of a land with these levels, and their notes
pub record NotedWet (heights levels flags parents joins cells : List ℕ) : Type 0 where
  pub land : Land
  pub local : Local land levels
  pub notes : Notes land (wet_cells land levels) heights flags parents joins
  pub cells_are : cells ≡ wet_cells land levels
  pub levels_hold : length levels ≡ length heights
  pub lifted : (c : ℕ) → at levels c ≤ highest

-- an outermost lake is deeper than 64
abbrev pub is_deep : Land → List ℕ → List ℕ → Bool
is_deep L levels s = ltb 64 (depth L (level_of levels s) s)

-- the lakes of some outermost lakes
abbrev pub lakes_in : Land → List ℕ → List (List ℕ) → List Lake
lakes_in L levels gs = flat (λ s. lakes_of L (level_of levels s) s) gs

-- what is found among them
pub record FoundAmong (L : Land) (levels : List ℕ) (gs : List (List ℕ)) (found : Result ℕ TooDeep) (rows : List Row) : Type 0 where
  pub found_is : found ≡ found_of (keep (is_deep L levels) gs) (lakes_in L levels gs)
  pub rows_are : keep (is_deep L levels) gs ≡ [] → take (length (lakes_in L levels gs)) rows ≡ map row_of (lakes_in L levels gs)
  pub lakes_few : keep (is_deep L levels) gs ≡ [] → length (lakes_in L levels gs) ≤ length (flat (λ g. g) gs)
