-- What was found on a tile, as it is read out of the rows.
-- Assumes nothing.
use Rattle.std.specs.Prelude.{[], List, Result, ◌≡◌, ℕ, ◌≤◌, length}
use Rattle.lake_list.specs.Rows.{found_of}
use Rattle.lake_rows.specs.Reading.{read_lakes}
use Rattle.lake_rules.specs.Fits.{LakesFit}
use Rattle.lake_rules.specs.Lakes.{Lake}
use Rattle.lake_list.specs.declared.Row.{Row}
use Rattle.lake_list.specs.declared.TooDeep.{TooDeep}

-- what was found is said of the lakes ls, of which the outermost ones in `deep` are too deep; where none is, the rows are theirs
pub record ReadFound (deep : List (List ℕ)) (ls : List Lake) (found : Result ℕ TooDeep) (rows : List Row) : Type 0 where
  pub found_is : found ≡ found_of deep ls
  pub few : length ls ≤ length rows
  pub fit : LakesFit 4096 ls
  pub read : deep ≡ [] → read_lakes rows (length ls) ≡ ls
