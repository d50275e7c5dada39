-- Listing lakes: any two outcomes that the contract in src/ allows are equal, but for what stands past the rows of the lakes, and for the
-- rows where a lake is too deep.
-- Assumes nothing.
use mathlib.Core.List.{[], List, map, ◌∷◌}
use mathlib.Core.Path.{ap, refl, ◌∙◌, ◌≡◌}
use Prim.Native.Nat.{ℕ}
use lib.ListN.{length, take}
use Rattle.lake_list.specs.Rows.{FoundIn, found_of, row_of, rows_told}
use Rattle.std.specs.Prelude.{Result}
use Rattle.lake_list.specs.declared.Row.{Row}
use Rattle.lake_list.specs.declared.TooDeep.{TooDeep}
use Rattle.lake_rules.specs.Lakes.{Lake, lakes, too_deep}
use Rattle.lists.proofs.Determined.{one_answer}
use Rattle.lists.specs.Contract.{OneOutcome}
use Rattle.rules.specs.Land.{Land}
use Rattle.lake_list.proofs.list_lakes.Kinds as list-lakes-kinds
use Rattle.lake_list.proofs.list_lakes.Reads as list-lakes

-- the rows that an answer tells
abbrev told : List (List ℕ) → List Lake → List Row
told [] ls = map row_of ls
told (s ∷ ss) ls = []

module _ {L : Land} {levels : List ℕ} where
  rows_are : {found : Result ℕ TooDeep} {rows : List Row} → FoundIn L levels found rows → rows_told found rows ≡ told (too_deep L levels) (lakes L levels)
  rows_are {found} {rows} F = ap (λ (r : Result ℕ TooDeep). rows_told r rows) F.found_is ∙ go (too_deep L levels) F.rows_are
    where
      go : (ss : List (List ℕ)) → (ss ≡ [] → take (length (lakes L levels)) rows ≡ map row_of (lakes L levels))
          → rows_told (found_of ss (lakes L levels)) rows ≡ told ss (lakes L levels)
      go [] e = e refl
      go (s ∷ ss) e = refl

  -- so what is found is one, and so are the rows that it tells
  pub found_one : {found found' : Result ℕ TooDeep} {rows rows' : List Row} → FoundIn L levels found rows → FoundIn L levels found' rows'
      → (found ≡ found') × (rows_told found rows ≡ rows_told found' rows')
  found_one F F' = (one_answer F.found_is F'.found_is, one_answer (rows_are F) (rows_are F'))

-- the number of lakes and their rows, or the cell of the lake that is too deep
pub list_lakes-one : OneOutcome 3 list-lakes-kinds.ps list-lakes-kinds.r list-lakes.Asked list-lakes.Learnt
    (λ κs a r e. rows_told r e.1.1.1.0.now)
list_lakes-one κs a p r r' e e' x y = let (marks, K) = p.1.1 in found_one (x marks K) (y marks K)
