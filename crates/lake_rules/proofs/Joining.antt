-- The groups of a set: their cells are the set's, chains of neighbours join the cells of one group, and no neighbour in the set is left out.
-- Assumes nothing.
use mathlib.Core.Bool.{true, ◌&&◌}
use mathlib.Core.List.{List}
use mathlib.Core.Path.{refl, subst, sym, ◌∙◌, ◌≡◌}
use Prim.Native.Nat.{ℕ, ◌<◌}
use native.Mathlib.Omega.{arith}
use lib.Dec.{eqb, ltb}
use borrow.Author.Tests.{eq-eqb, eqb-true, lt-ltb, ltb-true}
use Rattle.lake_rules.specs.Groups.{by_label, groups, labelled, least_of, Touch, touches, touches_at, touching}
use Rattle.lists.proofs.Flat.{flat_holds, flat_member}
use Rattle.lists.proofs.Keep.{keep_holds, keep_member}
use Rattle.lists.proofs.Map.{map_holds, map_member}
use Rattle.lists.proofs.Tests.{and_both, and_left, and_right, eq, gt, lt, Three, three}
use Rattle.lists.specs.Lists.{at, keep, ◌∈◌}
use Rattle.rules.proofs.Labels.{chained, labelled as one_Label, Within}
use Rattle.rules.specs.Chain.{back, Chain, forth, here, labels}
use Rattle.rules.specs.Land.{Land}

module _ (L : Land) where
  -- every cell of the set is a cell of the land
  abbrev pub OnLand : List ℕ → Type 0
  OnLand s = (c : ℕ) → c ∈ s → c < L.cells

  -- two neighbouring cells of a set
  pub record Touching (s : List ℕ) (x : Touch) : Type 0 where
    pub one_in : x.lesser ∈ s
    pub other_in : x.greater ∈ s
    pub ordered : x.lesser < x.greater
    pub beside : L.beside x.lesser x.greater ≡ true

  pub touch_is : (s : List ℕ) {x : Touch} → x ∈ touches L s → Touching s x
  unfolding touches touches_at
  touch_is s {x} m =
      let f = flat_member (touches_at L s) s m in
      let g = map_member (λ (b : ℕ). record { lesser = f.0; greater = b }) (keep (λ b. ltb f.0 b && L.beside f.0 b) s) f.2 in
      let k = keep_member (λ b. ltb f.0 b && L.beside f.0 b) s g.1 in
      subst (Touching s) (sym g.2)
      (record {
        one_in = f.1;
        other_in = k.0;
        ordered = omega (arith, ltb-true f.0 g.0 (and_left _ _ k.1));
        beside = and_right (ltb f.0 g.0) _ k.1;
      })

  pub touch_in : (s : List ℕ) (a b : ℕ) → a ∈ s → b ∈ s → a < b → L.beside a b ≡ true → record { lesser = a; greater = b } ∈ touches L s
  unfolding touches touches_at
  touch_in s a b i j l e =
      flat_holds (touches_at L s) i
      (map_holds (λ (c : ℕ). record { lesser = a; greater = c }) (keep_holds (λ c. ltb a c && L.beside a c) j (and_both _ _ (lt-ltb a b l) e)))

  -- more cells, more neighbours
  pub touches_more : {s z : List ℕ} → ((c : ℕ) → c ∈ s → c ∈ z) → (x : Touch) → x ∈ touches L s → x ∈ touches L z
  touches_more {s} {z} f x m =
      let t = touch_is s m in touch_in z x.lesser x.greater (f _ t.one_in) (f _ t.other_in) t.ordered t.beside

  -- neighbours in a set are joined in it
  pub beside_chain : ((a b : ℕ) → L.beside a b ≡ true → L.beside b a ≡ true) → (s : List ℕ) {a b : ℕ} → a ∈ s → b ∈ s → L.beside a b ≡ true
      → Chain touching (touches L s) a b
  beside_chain both s {a} {b} i j e = go (three a b)
    where
      go : Three a b → Chain touching (touches L s) a b
      go (lt l) = forth (record { lesser = a; greater = b }) (touch_in s a b i j l e) refl (here refl)
      go (eq q) = here q
      go (gt l) = back (record { lesser = b; greater = a }) (touch_in s b a j i l (both a b e)) refl (here refl)

  pub touches_within : (s : List ℕ) → OnLand s → Within touching L.cells (touches L s)
  touches_within s n x m = let t = touch_is s m in (n _ t.one_in, n _ t.other_in)

  -- a group is what has the label of some cell of the set, its least
  pub record Grouped (s g : List ℕ) : Type 0 where
    pub least : ℕ
    pub least_in_fact : least ∈ s
    pub is : g ≡ labelled (labels touching L.cells (touches L s)) s least

  pub group_is : (s : List ℕ) {g : List ℕ} → g ∈ groups L s → Grouped s g
  unfolding groups by_label
  group_is s {g} m =
      let ls = labels touching L.cells (touches L s) in
      let f = map_member (labelled ls s) (keep (least_of ls s) s) m in
      record { least = f.0; least_in_fact = (keep_member (least_of ls s) s f.1).0; is = f.2 }

  module _ (s : List ℕ) (on : OnLand s) {g : List ℕ} (G : Grouped s g) where
    abbrev ls : List ℕ
    ls = labels touching L.cells (touches L s)

    -- a group's cells are of the set, and have the label
    pub group_cell : {a : ℕ} → a ∈ g → (a ∈ s) × (at ls a ≡ at ls G.least)
    unfolding labelled
    group_cell {a} m =
        let k = keep_member (λ d. eqb (at ls d) (at ls G.least)) s (subst (λ (z : List ℕ). a ∈ z) G.is m) in
        (k.0, eqb-true _ _ k.1)

    pub cell_group : {a : ℕ} → a ∈ s → at ls a ≡ at ls G.least → a ∈ g
    unfolding labelled
    cell_group {a} m e =
        subst (λ (z : List ℕ). a ∈ z) (sym G.is) (keep_holds (λ d. eqb (at ls d) (at ls G.least)) m (eq-eqb _ _ e))

    -- a chain of neighbours joins any two cells of a group
    pub group_chain : {a b : ℕ} → a ∈ g → b ∈ g → Chain touching (touches L s) a b
    group_chain {a} {b} m n =
        chained touching L.cells (touches L s) a b (touches_within s on) (on a (group_cell m).0) (on b (group_cell n).0)
        ((group_cell m).1 ∙ sym (group_cell n).1)

    -- and a group is as large as it can be
    pub group_whole : {a b : ℕ} → a ∈ g → b ∈ s → Chain touching (touches L s) a b → b ∈ g
    group_whole {a} {b} m n c =
        cell_group n (sym (one_Label touching L.cells (touches L s) (touches_within s on) c) ∙ (group_cell m).1)
