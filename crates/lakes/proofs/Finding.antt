-- What was found on a ground, and what is printed of it: the lakes out of their rows, or the refusal of a lake that is too deep.
-- Assumes nothing.
use mathlib.Core.List.{[], List, ◌∷◌}
use mathlib.Core.Path.{ap, sym, ◌∙◌, ◌≡◌}
use Prim.Native.Nat.{ℕ}
use native.Mathlib.Omega.{arith}
use Rattle.lake_list.specs.Rows.{found_of, too_deep_at}
use Rattle.lake_rows.specs.Reading.{read_lakes}
use Rattle.lake_rules.specs.Lakes.{Lake}
use Rattle.lake_stages.proofs.ReadLakes.{lakes_found}
use Rattle.lake_stages.specs.LakesOn.{lakes_on, too_deep_on}
use Rattle.lake_stages.specs.ReadFound.{ReadFound}
use Rattle.lake_text.specs.LakeText.{lakes_text}
use Rattle.lakes.specs.Program.{found_text, ground_lakes_text}
use Rattle.lists.specs.Lists.{at}
use Rattle.rules.specs.Ground.{Ground}
use Rattle.text.specs.Text.{refused_text}
use Rattle.std.specs.Prelude.{Err, Ok, Result}
use Rattle.lake_list.specs.declared.Row.{Row}
use Rattle.lake_list.specs.declared.TooDeep.{TooDeep}

-- a cell is found where the first lake that is too deep has its least
found_deep : (deep : List (List ℕ)) (ls : List Lake) {lake : TooDeep} → found_of deep ls ≡ Err lake → found_text deep ls ≡ refused_text 10 lake.0.0
found_deep [] ls e = absurd (let z : ◌≡◌ {A = ℕ} 0 1 = cc in omega arith)
found_deep (s ∷ ss) ls {lake} e = let q : too_deep_at (at s 0) ≡ lake = cc in ap (λ (z : TooDeep). refused_text 10 z.0.0) q

module _ (g : Ground) {rows : List Row} {found : Result ℕ TooDeep} (R : ReadFound (too_deep_on g) (lakes_on g) found rows) where
  pub listed_text : {n : ℕ} → found ≡ Ok n → lakes_text (read_lakes rows n) ≡ ground_lakes_text g
  unfolding ground_lakes_text
  listed_text e =
      let K = lakes_found R e in
      ap lakes_text K.are ∙ ap (λ (d : List (List ℕ)). found_text d (lakes_on g)) (sym K.none_deep)

  pub deep_text : {lake : TooDeep} → found ≡ Err lake → refused_text 10 lake.0.0 ≡ ground_lakes_text g
  unfolding ground_lakes_text
  deep_text e = sym (found_deep (too_deep_on g) (lakes_on g) (sym R.found_is ∙ e))
