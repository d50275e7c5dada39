-- Rule 4 by any list of crossings that has every chosen pass: of its members the chosen ones are those whose two basins the lesser
-- members don't join. So joining along such a list in order picks exactly the chosen passes.
-- Assumes nothing.
use mathlib.Core.Bool.{not, true}
use mathlib.Core.List.Memᴰ.{append_cases as in-append}
use mathlib.Core.List.Memᴰ.{cases_cons as in-cases}
use mathlib.Core.List.Memᴰ.{head as in_head}
use mathlib.Core.List.{[], List}
use mathlib.Core.List.Memᴰ.{append_left as in_left}
use mathlib.Core.List.Memᴰ.{append_right as in_right}
use mathlib.Core.List.Memᴰ.{not-nil as in-none}
use mathlib.Core.List.{◌++◌, ◌∷◌}
use mathlib.Core.Logic.{inl, inr, ◌⊎◌}
use mathlib.Core.Path.{refl, subst, sym, ◌≡◌}
use Prim.Native.Nat.{suc, ℕ}
use native.Mathlib.Nat.{lt-suc_self}
use lib.ListN.{length}
use Rattle.lists.proofs.Keep.{keep_holds, keep_member}
use Rattle.lists.proofs.Ordered.{ordered_same}
use Rattle.lists.proofs.Tests.{clash}
use Rattle.lists.specs.Lists.{keep, ◌∈◌}
use Rattle.rules.proofs.Chains.{bind, mono, turned, ◌then◌}
use Rattle.rules.proofs.ChosenPasses.{chosen_pass, lost, pass_crossing, picked}
use Rattle.rules.proofs.Crossings.{node_same, ranked, SameBasins, strictly, Under, under_all}
use Rattle.rules.proofs.Forest.{below, replaced}
use Rattle.rules.proofs.Kruskal.{apart_chosen, chosen_apart}
use Rattle.rules.specs.Chain.{Chain, here}
use Rattle.rules.specs.Enough.{AllChosen, Enough, first, InOrder, Suffices}
use Rattle.rules.specs.Land.{Land}
use Rattle.rules.specs.Passes.{chosen, Crossing, crossings, edges, less, less_than, node, passes}

module _ (L : Land) where
  -- what a crossing joins, chosen passes no greater join
  no_greater : (p y x : Crossing) → less L p x ≡ true → not (less L p y) ≡ true → less L y x ≡ true
  no_greater p y x s t = go ((strictly L).total p y)
    where
      go : (less L p y ≡ true) ⊎ ((p ≡ y) ⊎ (less L y p ≡ true)) → less L y x ≡ true
      go (inl l) = absurd (clash (less L p y) l t)
      go (inr (inl e)) = subst (λ (z : Crossing). less L z x ≡ true) e s
      go (inr (inr l)) = (strictly L).trans y p x l s

  -- a lesser pass is joined by lesser chosen passes
  pass_by-chosen : (x p : Crossing) → p ∈ passes L → less L p x ≡ true
      → Chain (edges L) (less_than L x (chosen L)) (node L p.lesser) (node L p.greater)
  unfolding less_than chosen picked
  pass_by-chosen x p m s =
      mono
      (λ y i. let j = keep_member _ (keep (picked L) (passes L)) i in keep_holds _ j.0 (no_greater p y x s j.1))
      (replaced (ranked L) (passes L) (picked L) (lost L) (suc (length (below (ranked L) p (passes L)))) p m (lt-suc_self _))

  -- so is a lesser crossing
  crossing_by-chosen : (x y : Crossing) → y ∈ less_than L x (crossings L)
      → Chain (edges L) (less_than L x (chosen L)) (node L y.lesser) (node L y.greater)
  unfolding less_than
  crossing_by-chosen x y m = go w.like (pass_by-chosen x w.pass w.isin (low w.low))
    where
      i : (y ∈ crossings L) × (less L y x ≡ true)
      i = keep_member _ (crossings L) m

      w : Under L y
      w = under_all L (suc (length (keep (λ z. less L z y) (crossings L)))) y i.0 (lt-suc_self _)

      low : (w.pass ≡ y) ⊎ (less L w.pass y ≡ true) → less L w.pass x ≡ true
      low (inl e) = subst (λ (z : Crossing). less L z x ≡ true) (sym e) i.1
      low (inr t) = (strictly L).trans w.pass y x t i.1

      go : SameBasins L w.pass y → Chain (edges L) (less_than L x (chosen L)) (node L w.pass.lesser) (node L w.pass.greater)
          → Chain (edges L) (less_than L x (chosen L)) (node L y.lesser) (node L y.greater)
      go (inl (a, b)) c = here (sym (node_same L _ _ a)) then c then here (node_same L _ _ b)
      go (inr (a, b)) c = here (sym (node_same L _ _ b)) then turned c then here (node_same L _ _ a)

  -- a chain of lesser crossings is one of lesser chosen passes
  by-chosen : (x : Crossing) {a b : ℕ} → Chain (edges L) (less_than L x (crossings L)) a b → Chain (edges L) (less_than L x (chosen L)) a b
  by-chosen x c = bind (crossing_by-chosen x) c

  less_than_mono : (x : Crossing) {es fs : List Crossing} → ((y : Crossing) → y ∈ es → y ∈ fs) → (y : Crossing) → y ∈ less_than L x es
      → y ∈ less_than L x fs
  unfolding less_than
  less_than_mono x {es} f y m = let i = keep_member _ es m in keep_holds _ (f y i.0) i.1

  pub chosen_crossing : (x : Crossing) → x ∈ chosen L → x ∈ crossings L
  chosen_crossing x m = pass_crossing L (chosen_pass L m)

  module _ {K : List Crossing} (S : Suffices L K) where
    -- a chosen pass is not joined by lesser members
    sufficient_apart : (x : Crossing) → x ∈ chosen L → Chain (edges L) (less_than L x K) (node L x.lesser) (node L x.greater) → ⊥
    sufficient_apart x m c = chosen_apart L x m (mono (less_than_mono x S.only) c)

    -- a member that isn't is a chosen pass
    apart_sufficient : (x : Crossing) → x ∈ K → (Chain (edges L) (less_than L x K) (node L x.lesser) (node L x.greater) → ⊥)
        → x ∈ chosen L
    apart_sufficient x m n = apart_chosen L x (S.only x m) (λ c. n (mono (less_than_mono x S.all) (by-chosen x c)))

-- in order the members before x are the members less than x
module _ (L : Land) where
  before_less : (p q : List Crossing) (x y : Crossing) → InOrder L (p ++ (x ∷ q)) → y ∈ p → less L y x ≡ true
  before_less [] q x y o m = absurd (in-none m)
  before_less (z ∷ p) q x y (first f o) m = go (in-cases m) (before_less p q x y o)
    where
      go : (y ≡ z) ⊎ (y ∈ p) → (y ∈ p → less L y x ≡ true) → less L y x ≡ true
      go (inl e) ih = subst (λ (v : Crossing). less L v x ≡ true) (sym e) (f x (in_right p (in_head refl)))
      go (inr n) ih = ih n

  after_less : (p q : List Crossing) (x y : Crossing) → InOrder L (p ++ (x ∷ q)) → y ∈ q → less L x y ≡ true
  after_less [] q x y (first f o) m = f y m
  after_less (z ∷ p) q x y (first f o) m = after_less p q x y o m

  less_before : (p q : List Crossing) (x y : Crossing) → InOrder L (p ++ (x ∷ q)) → y ∈ p ++ (x ∷ q) → less L y x ≡ true → y ∈ p
  less_before p q x y o m l = go (in-append p m)
    where
      other : (y ≡ x) ⊎ (y ∈ q) → y ∈ p
      other (inl e) = absurd ((strictly L).irr x (subst (λ (v : Crossing). less L v x ≡ true) e l))
      other (inr n) = absurd ((strictly L).irr x ((strictly L).trans x y x (after_less p q x y o n) l))

      go : (y ∈ p) ⊎ (y ∈ x ∷ q) → y ∈ p
      go (inl n) = n
      go (inr n) = other (in-cases n)

  -- crossings in order are determined by what they are, and so are the chosen passes in order
  in_order_same : (a b : List Crossing) → InOrder L a → InOrder L b → ((x : Crossing) → x ∈ a → x ∈ b) → ((x : Crossing) → x ∈ b → x ∈ a)
      → a ≡ b
  in_order_same =
      ordered_same (λ x y. less L x y ≡ true) (λ x y h l. (strictly L).irr x ((strictly L).trans x y x h l)) (InOrder L) head tail
    where
      head : (x : Crossing) (xs : List Crossing) → InOrder L (x ∷ xs) → (y : Crossing) → y ∈ xs → less L x y ≡ true
      head x xs (first f o) = f

      tail : (x : Crossing) (xs : List Crossing) → InOrder L (x ∷ xs) → InOrder L xs
      tail x xs (first f o) = o

  pub all-chosen_same : {a b : List Crossing} → AllChosen L a → AllChosen L b → a ≡ b
  all-chosen_same {a} {b} s t =
      in_order_same a b s.ordered t.ordered (λ x m. t.all x (s.only x m)) (λ x m. s.all x (t.only x m))

  -- joining along K in order: x, with p before it, is chosen exactly if p doesn't join its two basins
  module _ (p q : List Crossing) (x : Crossing) (E : Enough L (p ++ (x ∷ q))) where
    pub met_apart : x ∈ chosen L → Chain (edges L) p (node L x.lesser) (node L x.greater) → ⊥
    unfolding less_than
    met_apart m c =
        sufficient_apart L E.suffices x m (mono (λ y i. keep_holds _ (in_left (x ∷ q) i) (before_less p q x y E.ordered i)) c)

    pub apart_met : (Chain (edges L) p (node L x.lesser) (node L x.greater) → ⊥) → x ∈ chosen L
    unfolding less_than
    apart_met n =
        apart_sufficient L E.suffices x (in_right p (in_head refl))
        (λ c. n (mono (λ y i. let j = keep_member _ (p ++ (x ∷ q)) i in less_before p q x y E.ordered j.0 j.1) c))
