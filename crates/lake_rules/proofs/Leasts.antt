-- The least cells of the groups of a set by labels: each cell's group has one, and no two have one label.
-- Assumes nothing.
use mathlib.Core.List.{List}
use mathlib.Core.Path.{refl, sym, ◌∙◌, ◌≡◌}
use Prim.Native.Nat.{ℕ, ◌<◌, ◌≤◌}
use native.Mathlib.Omega.{arith}
use lib.Dec.{eqb, ltb}
use borrow.Author.Tests.{eq-eqb, eqb-true, lt-ltb, ltb-true}
use Rattle.lake_rules.specs.Groups.{labelled, least_of}
use Rattle.lists.proofs.Any.{any_holds, any_member}
use Rattle.lists.proofs.Ascending.{ascending_first, ascending_keep}
use Rattle.lists.proofs.At.{at_member, member_some}
use Rattle.lists.proofs.Keep.{keep_holds, keep_member}
use Rattle.lists.proofs.Tests.{clash, eq, gt, lt, not_never, Three, three}
use Rattle.lists.specs.Ascending.{Ascending}
use Rattle.lists.specs.Lists.{any, at, keep, ◌∈◌}

module _ (ls s : List ℕ) where
  -- the least cells with their labels
  abbrev pub leasts : List ℕ
  leasts = keep (least_of ls s) s

  -- the cells that have c's label
  pub labelled_member : (c : ℕ) {d : ℕ} → d ∈ labelled ls s c → (d ∈ s) × (at ls d ≡ at ls c)
  unfolding labelled
  labelled_member c m = let k = keep_member (λ d. eqb (at ls d) (at ls c)) s m in (k.0, eqb-true _ _ k.1)

  pub labelled_holds : (c : ℕ) {d : ℕ} → d ∈ s → at ls d ≡ at ls c → d ∈ labelled ls s c
  unfolding labelled
  labelled_holds c m e = keep_holds (λ d. eqb (at ls d) (at ls c)) m (eq-eqb _ _ e)

  pub labelled_ascending : (c : ℕ) → Ascending s → Ascending (labelled ls s c)
  unfolding labelled
  labelled_ascending c u = ascending_keep (λ d. eqb (at ls d) (at ls c)) s u

  -- no lesser cell has a least cell's label
  pub least-low : {c d : ℕ} → c ∈ leasts → d ∈ s → at ls d ≡ at ls c → c ≤ d
  unfolding least_of
  least-low {c} {d} i j e = go (three d c)
    where
      go : Three d c → c ≤ d
      go (lt l) = absurd (clash _ (any_holds (λ (z : ℕ). ltb z c) (labelled_holds c j e) (lt-ltb d c l)) (keep_member (least_of ls s) s i).1)
      go (eq q) = omega arith
      go (gt l) = omega arith

  -- so no two least cells have one label
  pub least-one : {c d : ℕ} → c ∈ leasts → d ∈ leasts → at ls c ≡ at ls d → c ≡ d
  least-one {c} {d} i j e =
      let a : c ≤ d = least-low i (keep_member (least_of ls s) s j).0 (sym e) in
      let b : d ≤ c = least-low j (keep_member (least_of ls s) s i).0 e in
      omega arith

  -- each cell has the label of a least one
  pub least_some : Ascending s → (a : ℕ) → a ∈ s → (m : ℕ) × (m ∈ leasts) × (at ls m ≡ at ls a)
  unfolding least_of
  least_some u a i =
      let g = labelled ls s a in
      let v = labelled_ascending a u in
      let k = labelled_member a (at_member g 0 (member_some (labelled_holds a i refl))) in (
        at g 0,
        keep_holds (least_of ls s) k.0
            (not_never (any (λ d. ltb d (at g 0)) (labelled ls s (at g 0))) (λ t.
            let w = any_member (λ (d : ℕ). ltb d (at g 0)) (labelled ls s (at g 0)) t in
            let j = labelled_member (at g 0) w.1 in
            let p : at g 0 ≤ w.0 = ascending_first g v (labelled_holds a j.0 (j.1 ∙ k.1)) in
            let q : w.0 < at g 0 = ltb-true _ _ w.2 in
            omega arith)),
        k.1,
      )
