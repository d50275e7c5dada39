-- Two groups or more are two cells that no chain of neighbours joins.
-- Assumes nothing.
use mathlib.Core.List.{List}
use mathlib.Core.Path.{ap, subst, sym, ◌∙◌, ◌≡◌}
use Prim.Native.Nat.{ℕ, ◌≤◌}
use lib.ListN.{length, length-map}
use Rattle.lake_rules.proofs.Joining.{OnLand, touches_within}
use Rattle.lake_rules.proofs.Leasts.{least-one, least_some, leasts}
use Rattle.lake_rules.specs.Groups.{by_label, groups, least_of, touches, touching}
use Rattle.lists.proofs.Ascending.{ascending_keep, ascending_once}
use Rattle.lists.proofs.At.{member_two}
use Rattle.lists.proofs.Keep.{keep_member}
use Rattle.lists.proofs.Once.{once_two}
use Rattle.lists.specs.Ascending.{Ascending}
use Rattle.lists.specs.Lists.{at, ◌∈◌}
use Rattle.rules.proofs.Labels.{chained, labelled as one_Label}
use Rattle.rules.specs.Chain.{Chain, labels}
use Rattle.rules.specs.Land.{Land}

module _ (L : Land) (s : List ℕ) (on : OnLand L s) (u : Ascending s) where
  abbrev ls : List ℕ
  ls = labels touching L.cells (touches L s)

  count-leasts : length (groups L s) ≡ length (leasts ls s)
  unfolding groups by_label
  count-leasts = simp length-map

  pub apart_two : (a b : ℕ) → a ∈ s → b ∈ s → (Chain touching (touches L s) a b → ⊥) → 2 ≤ length (groups L s)
  apart_two a b i j n =
      let p = least_some ls s u a i in
      let q = least_some ls s u b j in
      subst (λ (k : ℕ). 2 ≤ k) (sym count-leasts)
      (member_two (leasts ls s) p.1 q.1 (λ e.
      n (chained touching L.cells (touches L s) a b (touches_within L s on) (on a i) (on b j) (sym p.2 ∙ ap (at ls) e ∙ q.2))))

  pub two_apart : 2 ≤ length (groups L s) → (a : ℕ) × (b : ℕ) × (a ∈ s) × (b ∈ s) × (Chain touching (touches L s) a b → ⊥)
  two_apart h =
      let once = ascending_once (leasts ls s) (ascending_keep (least_of ls s) s u) in
      let r = once_two (leasts ls s) once (subst (λ (k : ℕ). 2 ≤ k) count-leasts h) in (
        r.0,
        r.1,
        (keep_member (least_of ls s) s r.2).0,
        (keep_member (least_of ls s) s r.3).0,
        (λ c. r.4 (least-one ls s r.2 r.3 (one_Label touching L.cells (touches L s) (touches_within L s on) c))),
      )
