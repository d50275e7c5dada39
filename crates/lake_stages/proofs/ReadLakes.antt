-- Where n lakes were found, none is too deep, and the lakes are read out of the first n rows.
-- Assumes nothing.
use mathlib.Core.List.{[], List, ◌∷◌}
use mathlib.Core.Path.{ap, refl, subst, sym, ◌∙◌, ◌≡◌}
use Prim.Native.Nat.{ℕ, ◌≤◌}
use native.Mathlib.Omega.{arith}
use lib.ListN.{length}
use Rattle.lake_list.specs.Rows.{found_of}
use Rattle.lake_rows.specs.Reading.{read_lakes}
use Rattle.lake_rules.specs.Fits.{LakesFit}
use Rattle.lake_rules.specs.Lakes.{Lake}
use Rattle.lake_stages.specs.ReadFound.{ReadFound}
use Rattle.std.specs.Prelude.{Ok, Result}
use Rattle.lake_list.specs.declared.Row.{Row}
use Rattle.lake_list.specs.declared.TooDeep.{TooDeep}

pub record LakesRead (deep : List (List ℕ)) (ls : List Lake) (rows : List Row) (n : ℕ) : Type 0 where
  pub none_deep : deep ≡ []
  pub held : n ≤ length rows
  pub are : read_lakes rows n ≡ ls
  pub fit : LakesFit 4096 (read_lakes rows n)

pub found_count : (deep : List (List ℕ)) (ls : List Lake) {n : ℕ} → found_of deep ls ≡ Ok n → (deep ≡ []) × (length ls ≡ n)
found_count [] ls e = (refl, (cc))
found_count (s ∷ ss) ls e = absurd (let z : ◌≡◌ {A = ℕ} 0 1 = cc in omega arith)

pub lakes_found : {deep : List (List ℕ)} {ls : List Lake} {found : Result ℕ TooDeep} {rows : List Row} {n : ℕ} → ReadFound deep ls found rows → found ≡ Ok n
    → LakesRead deep ls rows n
lakes_found {deep} {ls} {found} {rows} {n} R e =
    let f = found_count deep ls (sym R.found_is ∙ e) in
    let are : read_lakes rows n ≡ ls = ap (read_lakes rows) (sym f.1) ∙ R.read f.0 in
    record { none_deep = f.0; held = omega (arith, R.few, f.1); are = are; fit = subst (LakesFit 4096) (sym are) R.fit }
