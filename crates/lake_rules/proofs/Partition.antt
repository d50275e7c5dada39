-- The groups of a set by labels part it: none is empty, each ascends, every cell of the set is in one group and in no other, the group of the
-- smaller least cell comes first, and sums over the groups add up to the sum over the set.
-- Assumes nothing.
use mathlib.Core.List.{List, map, map-id}
use mathlib.Core.List.{map-map}
use mathlib.Core.Path.{ap, refl, subst, sym, ◌∙◌, ◌≡◌}
use Prim.Native.Nat.{ℕ, ◌<◌, ◌≤◌}
use native.Mathlib.Omega.{arith}
use lib.Dec.{eqb}
use lib.ListN.{length}
use borrow.Author.Tests.{eq-eqb, eqb-true}
use Rattle.lake_rules.proofs.Leasts.{labelled_ascending, labelled_holds, labelled_member, least-low, least-one, least_some, leasts}
use Rattle.lake_rules.specs.Groups.{by_label, labelled, least_of}
use Rattle.lists.proofs.Ascending.{ascending_first, ascending_keep, ascending_once}
use Rattle.lists.proofs.At.{at_member, member_some}
use Rattle.lists.proofs.Keep.{keep_member}
use Rattle.lists.proofs.Map.{map_holds, map_member, map_same}
use Rattle.lists.proofs.Once.{once_keep-one, once_map}
use Rattle.lists.proofs.Sum.{sum_ones, sum_swap}
use Rattle.lists.specs.Ascending.{Ascending}
use Rattle.lists.specs.Lists.{at, keep, Once, sum, ◌∈◌}

module _ (ls s : List ℕ) (u : Ascending s) where
  leasts_once : Once (leasts ls s)
  leasts_once = ascending_once (leasts ls s) (ascending_keep (least_of ls s) s u)

  -- a group is what has the label of a least cell, its first
  pub by_label_member : {g : List ℕ} → g ∈ by_label ls s → (c : ℕ) × (c ∈ leasts ls s) × (g ≡ labelled ls s c)
  unfolding by_label
  by_label_member m = map_member (labelled ls s) (leasts ls s) m

  pub labelled-first : {c : ℕ} → c ∈ leasts ls s → at (labelled ls s c) 0 ≡ c
  labelled-first {c} m =
      let i : c ∈ labelled ls s c = labelled_holds ls s c (keep_member (least_of ls s) s m).0 refl in
      let k = labelled_member ls s c (at_member (labelled ls s c) 0 (member_some i)) in
      let a : at (labelled ls s c) 0 ≤ c = ascending_first (labelled ls s c) (labelled_ascending ls s c u) i in
      let b : c ≤ at (labelled ls s c) 0 = least-low ls s m k.0 k.1 in
      omega arith

  -- the least cells, one for each group: smaller least cell first
  pub by_label-firsts : map (λ g. at g 0) (by_label ls s) ≡ leasts ls s
  unfolding by_label
  by_label-firsts =
      map-map (λ (g : List ℕ). at g 0) (labelled ls s) (leasts ls s)
      ∙ map_same (λ c. at (labelled ls s c) 0) (λ c. c) (leasts ls s) (λ c m. labelled-first m)
      ∙ map-id (leasts ls s)

  pub by_label_ascending : {g : List ℕ} → g ∈ by_label ls s → Ascending g
  by_label_ascending m = let k = by_label_member m in subst Ascending (sym k.2) (labelled_ascending ls s k.0 u)

  pub by_label_cell : {g : List ℕ} → g ∈ by_label ls s → {a : ℕ} → a ∈ g → a ∈ s
  by_label_cell m {a} i = let k = by_label_member m in (labelled_member ls s k.0 (subst (λ (z : List ℕ). a ∈ z) k.2 i)).0

  pub by_label-not_empty : {g : List ℕ} → g ∈ by_label ls s → 0 < length g
  by_label-not_empty m =
      let k = by_label_member m in
      subst (λ (z : List ℕ). 0 < length z) (sym k.2)
      (member_some (labelled_holds ls s k.0 (keep_member (least_of ls s) s k.1).0 refl))

  -- every cell is in a group
  pub by_label_some : {a : ℕ} → a ∈ s → (g : List ℕ) × (g ∈ by_label ls s) × (a ∈ g)
  unfolding by_label
  by_label_some {a} m =
      let k = least_some ls s u a m in
      (labelled ls s k.0, map_holds (labelled ls s) k.1, labelled_holds ls s k.0 m (sym k.2))

  -- and in no other
  pub by_label_only : {g g' : List ℕ} {a : ℕ} → g ∈ by_label ls s → g' ∈ by_label ls s → a ∈ g → a ∈ g' → g ≡ g'
  by_label_only {a = a} m n i j =
      let k = by_label_member m in
      let l = by_label_member n in
      let p = (labelled_member ls s k.0 (subst (λ (z : List ℕ). a ∈ z) k.2 i)).1 in
      let q = (labelled_member ls s l.0 (subst (λ (z : List ℕ). a ∈ z) l.2 j)).1 in
      k.2 ∙ ap (labelled ls s) (least-one ls s k.1 l.1 (sym p ∙ q)) ∙ sym l.2

  -- and no group is listed twice
  pub by_label_once : Once (by_label ls s)
  unfolding by_label
  by_label_once =
      once_map (labelled ls s) (leasts ls s) leasts_once
      (λ x y i j e. sym (labelled-first i) ∙ ap (λ (g : List ℕ). at g 0) e ∙ labelled-first j)

  -- sums over the groups add up to the sum over the set
  pub by_label-sum : (f : ℕ → ℕ) → sum (map (λ g. sum (map f g)) (by_label ls s)) ≡ sum (map f s)
  unfolding by_label labelled
  by_label-sum f =
      ap sum (map-map (λ (g : List ℕ). sum (map f g)) (labelled ls s) (leasts ls s))
      ∙ sum_swap f (λ d c. eqb (at ls d) (at ls c)) (leasts ls s) s one
    where
      one : (d : ℕ) → d ∈ s → length (keep (λ c. eqb (at ls d) (at ls c)) (leasts ls s)) ≡ 1
      one d m =
          let k = least_some ls s u d m in
          once_keep-one _ (leasts ls s) k.0 leasts_once k.1 (eq-eqb _ _ (sym k.2))
          (λ y i t. least-one ls s i k.1 (sym (eqb-true (at ls d) (at ls y) t) ∙ sym k.2))

  -- and so do their numbers of cells
  pub by_label_lengths : sum (map length (by_label ls s)) ≡ length s
  by_label_lengths =
      ap sum (map_same length (λ g. sum (map (λ (x : ℕ). 1) g)) (by_label ls s) (λ g m. sym (sum_ones g)))
      ∙ by_label-sum (λ (x : ℕ). 1)
      ∙ sum_ones s
