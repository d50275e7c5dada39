-- Groups by other labels: any labels that tell the same cells apart give the same groups, and labels that name the least cell of each
-- group make the cells that name themselves the least ones.
-- Assumes nothing.
use mathlib.Core.Bool.{Bool, not}
use mathlib.Core.List.{List, map}
use mathlib.Core.Logic.{inl, inr, ◌⊎◌}
use mathlib.Core.Path.{ap, sym, ◌∙◌, ◌≡◌}
use Prim.Native.Nat.{ℕ, ◌<◌, ◌≤◌}
use native.Mathlib.Omega.{arith}
use lib.Dec.{eqb, ltb}
use borrow.Author.Tests.{eq-eqb, eqb-true, lt-ltb, ltb-true, ne_eqb}
use Rattle.lake_rules.specs.Groups.{by_label, labelled, least_of}
use Rattle.lists.proofs.Any.{any_holds, any_member}
use Rattle.lists.proofs.Keep.{keep_holds, keep_member, keep_same}
use Rattle.lists.proofs.Map.{map_same}
use Rattle.lists.proofs.Tests.{eq_or_ne, not_is, not_never}
use Rattle.lists.specs.Lists.{any, at, keep, ◌∈◌}

module _ (s ls ms : List ℕ) (same : (a b : ℕ) → a ∈ s → b ∈ s → eqb (at ls a) (at ls b) ≡ eqb (at ms a) (at ms b)) where
  labelled_same : (c : ℕ) → c ∈ s → labelled ls s c ≡ labelled ms s c
  unfolding labelled
  labelled_same c m = keep_same _ _ s (λ d i. same d c i m)

  least_of_same : keep (least_of ls s) s ≡ keep (least_of ms s) s
  unfolding least_of
  least_of_same = keep_same _ _ s (λ c m. ap (λ (z : List ℕ). not (any (λ d. ltb d c) z)) (labelled_same c m))

  -- labels that tell the same cells apart
  pub by_label_same : by_label ls s ≡ by_label ms s
  unfolding by_label
  by_label_same =
      map_same (labelled ls s) (labelled ms s) (keep (least_of ls s) s) (λ c m. labelled_same c (keep_member (least_of ls s) s m).0)
      ∙ ap (map (labelled ms s)) least_of_same

-- labels that name a cell of the group no greater than any other
pub record ByLeast (s ls : List ℕ) : Type 0 where
  pub own : (c : ℕ) → c ∈ s → at ls c ∈ s
  pub low : (c : ℕ) → c ∈ s → at ls c ≤ c
  pub fixed : (c : ℕ) → c ∈ s → at ls (at ls c) ≡ at ls c

-- a cell that names itself
abbrev pub names_itself : List ℕ → ℕ → Bool
names_itself ls c = eqb (at ls c) c

module _ (s ls : List ℕ) (B : ByLeast s ls) where
  pub least_names : (c : ℕ) → c ∈ s → least_of ls s c ≡ names_itself ls c
  unfolding least_of labelled
  least_names c m = go (eq_or_ne (at ls c) c)
    where
      go : (at ls c ≡ c) ⊎ (at ls c ≡ c → ⊥) → not (any (λ d. ltb d c) (labelled ls s c)) ≡ names_itself ls c
      go (inl e) =
          not_never _ (λ t.
          let w = any_member (λ (d : ℕ). ltb d c) (labelled ls s c) t in
          let k = keep_member (λ d. eqb (at ls d) (at ls c)) s w.1 in
          let a : w.0 < c = ltb-true _ _ w.2 in
          let b : at ls w.0 ≤ w.0 = B.low w.0 k.0 in
          let d : at ls w.0 ≡ at ls c = eqb-true _ _ k.1 in
          omega arith)
          ∙ sym (eq-eqb _ _ e)
      go (inr n) =
          not_is _ (any_holds (λ (d : ℕ). ltb d c) (keep_holds (λ d. eqb (at ls d) (at ls c)) (B.own c m) (eq-eqb _ _ (B.fixed c m)))
          (lt-ltb (at ls c) c (let l : at ls c ≤ c = B.low c m in omega arith)))
          ∙ sym (ne_eqb _ _ n)

  -- the least cells are those that name themselves
  pub leasts-name : keep (least_of ls s) s ≡ keep (names_itself ls) s
  leasts-name = keep_same _ _ s (λ c m. least_names c m)

  -- so the groups are theirs
  pub by_label-name : by_label ls s ≡ map (labelled ls s) (keep (names_itself ls) s)
  unfolding by_label
  by_label-name = ap (map (labelled ls s)) leasts-name
