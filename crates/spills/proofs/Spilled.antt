-- From notes to spills. By ascending label: the label that is noted is a lesser one, joined with 0 as the label itself is, so its spill is
-- known. Pairs no higher than the noted one lead to it, and no lower ones lead to 0: the spill is the greater of the two heights.
-- Assumes nothing.
use mathlib.Core.List.{List}
use mathlib.Core.Logic.{inl, inr, ◌⊎◌}
use mathlib.Core.Path.{ap, subst, sym, ◌∙◌, ◌≡◌}
use Prim.Native.Nat.{max, suc, zero, ℕ, ◌%◌, ◌/◌, ◌<◌, ◌≤◌}
use native.Mathlib.Omega.{arith}
use lib.ListN.{length}
use borrow.Author.Tests.{eq-eqb, ne_eqb}
use Rattle.groups.proofs.Roots.{root_below}
use Rattle.groups.specs.Groups.{root_of}
use Rattle.lists.proofs.Tests.{eq_or_ne, lt_or_ge}
use Rattle.lists.specs.Lists.{at}
use Rattle.pairs.specs.Pairs.{greater_of, pair_height}
use Rattle.rules.proofs.Chains.{turned, ◌then◌}
use Rattle.rules.specs.Chain.{Chain, here}
use Rattle.spills.proofs.Under.{joins_group, labels_small, under_all, under_more}
use Rattle.spills.specs.Noting.{Hung, no_note, note_of, Noting, Readable, spill_by, SpillsBy}
use Rattle.spills.specs.Spills.{label_edges, Spill, Spilling, under}

-- a note read
note_pair : (p q : ℕ) → q ≤ 4096 → note_of p q / 65536 ≡ p
note_pair p q h = omega arith

note_label : (p q : ℕ) → q ≤ 4096 → note_of p q % 65536 ≡ q
note_label p q h = omega arith

note_some : (p q : ℕ) → q ≤ 4096 → note_of p q ≡ no_note → ⊥
note_some p q h e = omega arith

module _ (w : ℕ) (heights spills : List ℕ) where
  pub spill-none : (note : ℕ) → note ≡ no_note → spill_by w heights spills note ≡ 0
  unfolding spill_by
  spill-none note e = rw (eq-eqb note no_note e)

  pub spill_some : (note : ℕ) → (note ≡ no_note → ⊥)
      → spill_by w heights spills note ≡ max (pair_height w heights (note / 65536)) (at spills (note % 65536))
  unfolding spill_by
  spill_some note n = rw (ne_eqb note no_note n)

  spill-noted : (p q : ℕ) → q ≤ 4096 → spill_by w heights spills (note_of p q) ≡ max (pair_height w heights p) (at spills q)
  spill-noted p q h =
      spill_some (note_of p q) (note_some p q h)
      ∙ ap (λ (x : ℕ). max (pair_height w heights x) (at spills (note_of p q % 65536))) (note_pair p q h)
      ∙ ap (λ (x : ℕ). max (pair_height w heights p) (at spills x)) (note_label p q h)

-- a note that is there
pub read_some : (w n b note : ℕ) → Readable w n b note → (note ≡ no_note → ⊥) → (greater_of w (note / 65536) < n) × (note % 65536 < b)
read_some w n b note (inl e) z = absurd (z e)
read_some w n b note (inr r) z = r

module _ {w : ℕ} {heights labels list : List ℕ} (S : Spilling w heights labels list) {g notes : List ℕ}
    (Q : Noting w heights labels list g notes) where
  pub readable : (b : ℕ) → b ≤ 4096 → Readable w (length heights) b (at notes b)
  readable b k = go (eq_or_ne (root_of g b) b)
    where
      go : (root_of g b ≡ b) ⊎ (root_of g b ≡ b → ⊥) → Readable w (length heights) b (at notes b)
      go (inl e) = inl (Q.roots b k e)
      go (inr z) =
          let H = Q.hung b k z in
          let q : H.parent ≤ 4096 = omega (arith, H.lesser) in
          let x = ap (λ (n : ℕ). n / 65536) H.says ∙ note_pair H.pair H.parent q in
          let y = ap (λ (n : ℕ). n % 65536) H.says ∙ note_label H.pair H.parent q in
          inr (subst (λ (p : ℕ). greater_of w p < length heights) (sym x) (S.pairs H.pair H.met).on, omega (arith, y, H.lesser))

  same_group : (a b : ℕ) → a ≤ 4096 → b ≤ 4096 → Chain (label_edges w labels) list a b → root_of g a ≡ root_of g b
  same_group a b h k c = joins_group w labels list (labels_small S) Q.groups a b h k c

  root-zero : root_of g 0 ≡ 0
  root-zero = let z : root_of g 0 ≤ 0 = root_below g Q.groups.down 0 in omega arith

  module _ (spills : List ℕ) {top : ℕ} (few : top ≤ 4097) (B : SpillsBy w heights notes top spills) where
    abbrev IsSpill : ℕ → ℕ → Type 0
    IsSpill b s = Spill w heights labels list b s

    at_zero : (b : ℕ) → b < top → b ≡ 0 → IsSpill b (at spills b)
    at_zero b t e =
        let k : b ≤ 4096 = omega arith in
        let none = Q.roots b k (ap (root_of g) e ∙ root-zero ∙ sym e) in
        let value : at spills b ≡ 0 = B b t ∙ spill-none w heights spills (at notes b) none in
        subst (IsSpill b) (sym value) (record { enough = here e; least = λ m c. omega arith })

    -- the label that is noted at b has its spill
    module _ (b : ℕ) (t : b < top) (H : Hung w heights labels list b (at notes b)) (T : IsSpill H.parent (at spills H.parent)) where
      abbrev j : ℕ
      j = pair_height w heights H.pair

      abbrev up : ℕ
      up = at spills H.parent

      value : at spills b ≡ max j up
      value =
          B b t ∙ ap (spill_by w heights spills) H.says ∙ spill-noted w heights spills H.pair H.parent (omega (arith, H.lesser))

      least : (m : ℕ) → Chain (label_edges w labels) (under w heights list m) b 0 → (m < j) ⊎ (j ≤ m) → max j up ≤ m
      least m c (inl h) = absurd (H.apart m h c)
      least m c (inr h) =
          let t : up ≤ m = T.least m (turned (under_more w heights list j m h H.way) then c) in
          omega arith

      by_parent : IsSpill b (at spills b)
      by_parent =
          subst (IsSpill b) (sym value) (record {
            enough = under_more w heights list j (max j up) (omega arith) H.way then under_more w heights list up (max j up) (omega arith) T.enough;
            least = λ m c. least m c (lt_or_ge m j);
          })

    spilled : (k b : ℕ) → b ≤ k → b < top → root_of g b ≡ 0 → IsSpill b (at spills b)
    spilled zero b h t e = at_zero b t (omega arith)
    spilled (suc k) b h t e = go (eq_or_ne b 0) (spilled k)
      where
        go : (b ≡ 0) ⊎ (b ≡ 0 → ⊥) → ((q : ℕ) → q ≤ k → q < top → root_of g q ≡ 0 → IsSpill q (at spills q)) → IsSpill b (at spills b)
        go (inl z) ih = at_zero b t z
        go (inr n) ih =
            let l : b ≤ 4096 = omega arith in
            let H = Q.hung b l (λ f. n (sym f ∙ e)) in
            let q : H.parent ≤ 4096 = omega (arith, H.lesser) in
            let r = same_group b H.parent l q (under_all w heights list (pair_height w heights H.pair) H.way) in
            by_parent b t H (ih H.parent (omega (arith, H.lesser)) (omega (arith, H.lesser)) (sym r ∙ e))

    -- each cell's label is joined with 0
    pub cell_spill : (c : ℕ) → c < length labels → at labels c < top → Spill w heights labels list (at labels c) (at spills (at labels c))
    cell_spill c h t =
        let k : at labels c ≤ 4096 = S.small c h in
        spilled 4096 (at labels c) k t (same_group (at labels c) 0 k (omega arith) (S.reached c h) ∙ root-zero)
