-- Lakes as they stand in a list of rows, and what is found on a tile.
-- Assumes nothing.
use Rattle.std.specs.Prelude.{Err, [], List, map, Ok, Result, ◌∷◌, ◌≡◌, ℕ, ◌≤◌, length, take}
use Rattle.kinds.specs.Kinds.{as_cell}
use Rattle.lake_rules.specs.Lakes.{Lake, lakes, too_deep}
use Rattle.lists.specs.Lists.{at}
use Rattle.rules.specs.Land.{Land}
use Rattle.lake_list.specs.declared.Row.{Row}
use Rattle.lake_list.specs.declared.TooDeep.{TooDeep}

-- the row of a lake
abbrev pub row_of : Lake → Row
row_of x = record { level = x.level; count = x.count; least = as_cell x.least; volume = x.volume }

-- a lake of this least cell is too deep
abbrev pub too_deep_at : ℕ → TooDeep
too_deep_at c = record { 0 = as_cell c }

-- how many lakes there are, or the least cell of the first outermost lake that is too deep
abbrev pub found_of : List (List ℕ) → List Lake → Result ℕ TooDeep
found_of [] ls = Ok (length ls)
found_of (s ∷ ss) ls = Err (too_deep_at (at s 0))

-- the rows that an answer tells of a list
abbrev pub rows_told : Result ℕ TooDeep → List Row → List Row
rows_told (Ok n) rows = take n rows
rows_told (Err c) rows = []

-- what is found on a land, and where none is too deep, the lakes' rows at the start of a list, no more than cells
pub record FoundIn (L : Land) (levels : List ℕ) (found : Result ℕ TooDeep) (rows : List Row) : Type 0 where
  pub found_is : found ≡ found_of (too_deep L levels) (lakes L levels)
  pub rows_are : too_deep L levels ≡ [] → take (length (lakes L levels)) rows ≡ map row_of (lakes L levels)
  pub lakes_few : too_deep L levels ≡ [] → length (lakes L levels) ≤ L.cells
