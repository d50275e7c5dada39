-- Lists that are filled from rows hold the lakes of these rows.
-- Assumes nothing.
use mathlib.Core.List.{List, map}
use mathlib.Core.Path.{ap, sym, ◌≡◌}
use Prim.Native.Nat.{ℕ}
use Rattle.lake_list.specs.declared.Row.{Row}
use Rattle.lake_rows.specs.Reading.{read_lake, read_lakes}
use Rattle.lake_rules.specs.Lakes.{Lake}
use Rattle.lists.proofs.Tab.{tab-map}
use Rattle.lists.specs.Lists.{filled, overwrite}

-- a number of each lake
pub filled-lakes : {A : Type 0} (f : Lake → A) (rows : List Row) (n : ℕ) (old : List A)
    → filled (λ i. f (read_lake rows i)) n old ≡ overwrite (map f (read_lakes rows n)) old
unfolding filled
filled-lakes f rows n old = ap (λ (l : List _). overwrite l old) (sym (tab-map f (read_lake rows) n))
