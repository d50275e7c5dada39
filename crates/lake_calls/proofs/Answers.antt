-- The answer to what was found: where it lists n lakes, n were found, and there is room for them.
-- Assumes nothing.
use mathlib.Core.Bool.{Bool}
use mathlib.Core.Path.{ap, sym, ◌∙◌, ◌≡◌}
use Prim.Native.Nat.{ℕ, ◌≤◌}
use native.Mathlib.Omega.{arith}
use lib.Dec.{leb}
use borrow.Author.Tests.{leb-true}
use Rattle.lake_calls.specs.LakeCall.{judge_found, LakesAnswer, lakes_number, must_hold}
use Rattle.lists.proofs.Tests.{is, isnt, Known, known}
use Rattle.std.specs.Prelude.{Err, Ok, Result}
use Rattle.lake_list.specs.declared.TooDeep.{TooDeep}

-- how many are listed
abbrev listed_count : LakesAnswer → ℕ
listed_count (Ok n) = n
listed_count (Err why) = 0

pub answer_listed : (found : Result ℕ TooDeep) (room n : ℕ) → judge_found found room ≡ Ok n → (found ≡ Ok n) × (n ≤ room)
answer_listed (Err lake) room n e = let z : ◌≡◌ {A = ℕ} 10 0 = ap lakes_number e in absurd (omega arith)
answer_listed (Ok m) room n e = go (known (leb m room))
  where
    go : Known (leb m room) → (◌≡◌ {A = Result ℕ TooDeep} (Ok m) (Ok n)) × (n ≤ room)
    go (is t) =
        let q : m ≡ n = ap listed_count (ap (λ (b : Bool). must_hold b (Ok m)) (sym t) ∙ e) in
        let f = leb-true m room t in
        (ap Ok q, omega arith)
    go (isnt t) =
        let z : ◌≡◌ {A = ℕ} 3 0 = ap lakes_number (ap (λ (b : Bool). must_hold b (Ok m)) (sym t) ∙ e) in
        absurd (omega arith)
