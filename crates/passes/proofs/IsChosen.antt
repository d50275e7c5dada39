-- The test whether a crossing is a chosen pass: of enough crossings in order those that pass it are all chosen passes, in order.
-- Assumes nothing.
use mathlib.Core.Bool.{Bool, cond, false, true}
use mathlib.Core.List.{List, ◌∷◌}
use mathlib.Core.Path.{refl, subst, ◌≡◌}
use lib.Dec.{eqb}
use borrow.Author.Tests.{eq-eqb, eqb-true}
use Rattle.lists.proofs.Any.{any_holds, any_member}
use Rattle.lists.proofs.Keep.{keep_holds, keep_member}
use Rattle.lists.proofs.Tests.{and_both, and_left, and_right}
use Rattle.lists.specs.Lists.{keep, ◌∈◌}
use Rattle.passes.specs.Picking.{is_chosen}
use Rattle.rules.specs.Enough.{AllChosen, Enough, first, InOrder, none}
use Rattle.rules.specs.Land.{Land}
use Rattle.rules.specs.Passes.{chosen, Crossing}

module _ (L : Land) where
  pub chosen_is : (x : Crossing) → is_chosen L x ≡ true → x ∈ chosen L
  unfolding is_chosen
  chosen_is x t =
      let (y, m, e) = any_member _ (chosen L) t in
      let a : y.lesser ≡ x.lesser = eqb-true _ _ (and_left (eqb y.lesser x.lesser) _ e) in
      let b : y.greater ≡ x.greater = eqb-true _ _ (and_right (eqb y.lesser x.lesser) _ e) in
      subst (λ (z : Crossing). z ∈ chosen L) (λ i. record { lesser = a i; greater = b i }) m

  pub is_chosen_fact : (x : Crossing) → x ∈ chosen L → is_chosen L x ≡ true
  unfolding is_chosen
  is_chosen_fact x m = any_holds _ m (and_both _ _ (eq-eqb x.lesser x.lesser refl) (eq-eqb x.greater x.greater refl))

  -- what passes a test stays in order
  in_order-keep : (t : Crossing → Bool) {K : List Crossing} → InOrder L K → InOrder L (keep t K)
  in_order-keep t none = none
  in_order-keep t (first {x = x} {xs = xs} f o) = go (t x) (in_order-keep t o)
    where
      go : (b : Bool) → InOrder L (keep t xs) → InOrder L (cond b (x ∷ keep t xs) (keep t xs))
      go true r = first (λ y m. f y (keep_member t xs m).0) r
      go false r = r

  pub enough_chosen : {K : List Crossing} → Enough L K → AllChosen L (keep (is_chosen L) K)
  enough_chosen {K} E =
      record {
        only = λ x m. chosen_is x (keep_member (is_chosen L) K m).1;
        all = λ x m. keep_holds (is_chosen L) (E.suffices.all x m) (is_chosen_fact x m);
        ordered = in_order-keep (is_chosen L) E.ordered;
      }
