-- What the listing of lakes is worked out from, and what it leaves.
-- Assumes nothing.
use Rattle.std.specs.Prelude.{List, map, None, Option, Some, ◌++◌, ◌≡◌, ℕ, ◌*◌, ◌+◌, ◌<◌, ◌≤◌, drop, length}
use Rattle.std.proofs.lemmas.List.Edits.{sets}
use Rattle.lake_groups.specs.Gathering.{Ends}
use Rattle.lake_list.specs.Rows.{row_of}
use Rattle.lake_rules.specs.Lakes.{Lake}
use Rattle.lake_rules.specs.Notes.{highest, LakeIn, Notes}
use Rattle.lists.specs.Ascending.{Ascending}
use Rattle.lists.specs.Lists.{at, flat, ◌∈◌}
use Rattle.rules.specs.Land.{Land}
use Rattle.lake_list.specs.declared.Row.{Row}

-- s is a lake of this level in the set S of wet cells: its cells, ascending, of which there is one at least
pub record LakeOf (L : Land) (S : List ℕ) (level : ℕ) (s : List ℕ) : Type 0 where
  pub lake : LakeIn L S level s
  pub ascending : Ascending s
  pub some : 0 < length s
  pub lifted : level ≤ highest

-- a lake of a land whose wet cells have these notes
pub record NotedLake (heights flags parents joins : List ℕ) (level : ℕ) (s : List ℕ) : Type 0 where
  pub land : Land
  pub wet : List ℕ
  pub wet_ascending : Ascending wet
  pub notes : Notes land wet heights flags parents joins
  pub is : LakeOf land wet level s

-- `count` lakes of such a land, each of its level, that stand one after the other: the entries say where the first begins and where
-- each ends. Entries enough are left for what is inside any one of them
pub record NotedLakes (heights flags parents joins : List ℕ) (level_of : List ℕ → ℕ) (cells ends : List ℕ) (count : ℕ) : Type 0 where
  pub land : Land
  pub wet : List ℕ
  pub wet_ascending : Ascending wet
  pub notes : Notes land wet heights flags parents joins
  pub gs : List (List ℕ)
  pub rest : List ℕ
  pub count_is : count ≡ length gs
  pub cells_are : drop (at ends 0) cells ≡ flat (λ g. g) gs ++ rest
  pub ends_are : Ends gs (at ends 0) 1 ends
  pub lakes : (g : List ℕ) → g ∈ gs → LakeOf land wet (level_of g) g
  pub ends_fit : (g : List ℕ) → g ∈ gs → count + 1 + 2 * length g ≤ length ends

-- work space for the cells, and room for as many lakes as cells after the first `from`; a tile has no more cells than 4096
pub record Room (heights cells spare index : List ℕ) (rows : List Row) (from : ℕ) : Type 0 where
  pub spare_fits : length spare ≡ length cells
  pub index_fits : length heights ≤ length index
  pub few : from + length cells ≤ 4096
  pub rows_fit : from + length cells ≤ length rows

-- lakes of depth `deep`, of which `left` is allowed, listed after the first `from`: their rows are stored, and the answer is how many
-- lakes are listed then, no more than cells. Or they are too deep
pub data Listed (left deep from room : ℕ) (ls : List Lake) (old new : List Row) (next : Option ℕ) : Type 0 where
  listed : deep ≤ left → next ≡ Some (from + length ls) → length ls ≤ room → new ≡ sets old from (map row_of ls)
      → Listed left deep from room ls old new next
  too_deep_fact : left < deep → next ≡ None → Listed left deep from room ls old new next
