-- Masks of a relation: relations that agree have the same mask, one neighbour more adds its place's bit, the masks of relations that share no
-- neighbour add up, and the mask of where a cell leads to is the bit of one place, or 0.
-- Assumes nothing.
use mathlib.Core.Bool.{Bool, cond, false, false≢true, true, ◌&&◌, ◌||◌}
use mathlib.Core.List.Memᴰ.{cases_cons as in-cases}
use mathlib.Core.List.Memᴰ.{head as in_head}
use mathlib.Core.List.Memᴰ.{not-nil as in-none}
use mathlib.Core.List.{[], List}
use mathlib.Core.List.Memᴰ.{tail as in_Tail}
use mathlib.Core.List.{map, ◌∷◌}
use mathlib.Core.Logic.{inl, inr, ◌⊎◌}
use mathlib.Core.Path.{ap, refl, subst, sym, ◌∙◌, ◌≡◌}
use Prim.Native.Nat.{suc, ℕ, ◌*◌, ◌+◌, ◌<◌, ◌≤◌, ◌^◌}
use native.Mathlib.Nat.{pow-suc}
use native.Mathlib.Omega.{arith}
use lib.Dec.{eqb}
use lib.ListN.{length, length-map}
use borrow.Author.Tests.{eq-eqb, eqb-true, ne_eqb}
use Rattle.grid.proofs.Window.{on_stands, stands_cell, stands_itself, stands_on, stands_place}
use Rattle.grid.specs.Masks.{bit_of, bits, joins_at, leads, mask_of, Masks}
use Rattle.grid.specs.Window.{cell_at, IsRule, on_tile, place_of, Rows, Stands}
use Rattle.lists.proofs.Any.{any_holds, any_member}
use Rattle.lists.proofs.Filled.{filled_at}
use Rattle.lists.proofs.Sorted.{sorted_member}
use Rattle.lists.proofs.Tests.{and_both, and_left, and_right, eq_or_ne, is, isnt, Known, known, never}
use Rattle.lists.specs.Ascending.{Sorted, sorted_next}
use Rattle.lists.specs.Lists.{any, at, filled, ◌∈◌}

-- a mask has as many bits as there are places
bits_small : (ts : List Bool) → bits ts < 2 ^ length ts
bits_small [] = omega arith
bits_small (true ∷ ts) = let h = bits_small ts in let e = pow-suc 2 (length ts) in omega arith
bits_small (false ∷ ts) = let h = bits_small ts in let e = pow-suc 2 (length ts) in omega arith

-- the bits of places: never 0, and each place has its own
bit_some : (ps : List ℕ) {p : ℕ} → p ∈ ps → 0 < bit_of ps p
bit_some [] m = absurd (in-none m)
bit_some (q ∷ qs) {p} m = go (eq_or_ne p q) (in-cases m) (λ i. bit_some qs i)
  where
    go : (p ≡ q) ⊎ (p ≡ q → ⊥) → (p ≡ q) ⊎ (p ∈ qs) → (p ∈ qs → 0 < bit_of qs p) → 0 < bit_of (q ∷ qs) p
    go (inl e) k ih = rw (eq-eqb p q e) (omega arith)
    go (inr z) (inl e) ih = absurd (z e)
    go (inr z) (inr i) ih = let h = ih i in rw (ne_eqb p q z) (omega arith)

bit_one : (ps : List ℕ) {p q : ℕ} → p ∈ ps → q ∈ ps → bit_of ps p ≡ bit_of ps q → p ≡ q
bit_one [] m k e = absurd (in-none m)
bit_one (x ∷ xs) {p} {q} m k e = go (eq_or_ne p x) (eq_or_ne q x) (λ a b. bit_one xs {p = p} {q = q} a b)
  where
    lose : {y : ℕ} → (y ≡ x → ⊥) → (y ≡ x) ⊎ (y ∈ xs) → y ∈ xs
    lose z (inl f) = absurd (z f)
    lose z (inr i) = i

    go : (p ≡ x) ⊎ (p ≡ x → ⊥) → (q ≡ x) ⊎ (q ≡ x → ⊥) → (p ∈ xs → q ∈ xs → bit_of xs p ≡ bit_of xs q → p ≡ q) → p ≡ q
    go (inl f) (inl g) ih = f ∙ sym g
    go (inl f) (inr z) ih =
        let u : 1 ≡ 2 * bit_of xs q = rw (eq-eqb p x f, ne_eqb q x z) at e in
        absurd (omega arith)
    go (inr z) (inl g) ih =
        let u : 2 * bit_of xs p ≡ 1 = rw (ne_eqb p x z, eq-eqb q x g) at e in
        absurd (omega arith)
    go (inr y) (inr z) ih =
        let u : 2 * bit_of xs p ≡ 2 * bit_of xs q = rw (ne_eqb p x y, ne_eqb q x z) at e in
        ih (lose y (in-cases m)) (lose z (in-cases k)) (omega arith)

-- ascending places have ascending bits
pub bit_ascends : {j : ℕ} (ps : List ℕ) → Sorted j ps → {p q : ℕ} → p ∈ ps → q ∈ ps → p < q → bit_of ps p < bit_of ps q
bit_ascends [] s m k h = absurd (in-none m)
bit_ascends (x ∷ xs) (sorted_next l s) {p} {q} m k h = go (in-cases m) (in-cases k) (λ i j. bit_ascends xs s i j h)
  where
    go : (p ≡ x) ⊎ (p ∈ xs) → (q ≡ x) ⊎ (q ∈ xs) → (p ∈ xs → q ∈ xs → bit_of xs p < bit_of xs q) → bit_of (x ∷ xs) p < bit_of (x ∷ xs) q
    go (inl e) (inl f) ih = absurd (omega arith)
    go (inl e) (inr j) ih =
        let b = bit_some xs j in
        rw (eq-eqb p x e, ne_eqb q x (λ f. let u = sorted_member s j in omega arith)) (omega arith)
    go (inr i) (inl f) ih = let u = sorted_member s i in absurd (omega arith)
    go (inr i) (inr j) ih =
        let b = ih i j in
        rw (ne_eqb p x (λ f. let u = sorted_member s i in omega arith), ne_eqb q x (λ f. let u = sorted_member s j in omega arith)) (omega arith)

and_same : (t e f : Bool) → (t ≡ true → e ≡ f) → t && e ≡ t && f
and_same true e f h = h refl
and_same false e f h = refl

-- two tests that are never both met
either : (t a b : Bool) → (t ≡ true → a ≡ true → b ≡ true → ⊥)
    → ◌≡◌ {A = ℕ} (cond (t && a) 1 0 + cond (t && b) 1 0) (cond (t && (a || b)) 1 0)
either false a b f = refl
either true true true f = absurd (f refl refl refl)
either true true false f = refl
either true false b f = omega arith

module _ {w n : ℕ} (G : Rows w n) {places : List ℕ} (R : IsRule places) (c : ℕ) where
  pub mask_small : (E : ℕ → ℕ → Bool) → mask_of places w n E c < 2 ^ length places
  unfolding mask_of
  mask_small E = subst (λ (k : ℕ). mask_of places w n E c < 2 ^ k) (length-map places (joins_at w n E c)) (bits_small (map (joins_at w n E c) places))

  -- tests that agree at all places but one
  test_same : (E F : ℕ → ℕ → Bool) (p : ℕ) → p < 9 → ((d : ℕ) → Stands w n c p d → E c d ≡ F c d) → joins_at w n E c p ≡ joins_at w n F c p
  test_same E F p h agree = and_same (on_tile w n c p) _ _ (λ t. agree (cell_at w c p) (on_stands w n c p h G.wide t))

  same_bits : (E F : ℕ → ℕ → Bool) (ps : List ℕ) → ((p : ℕ) → p ∈ ps → p < 9)
      → ((p d : ℕ) → p ∈ ps → Stands w n c p d → E c d ≡ F c d) → bits (map (joins_at w n E c) ps) ≡ bits (map (joins_at w n F c) ps)
  same_bits E F [] b agree = refl
  same_bits E F (p ∷ ps) b agree =
      ap (λ (t : Bool). cond t 1 0 + 2 * bits (map (joins_at w n E c) ps)) (test_same E F p (b p (in_head refl)) (λ d. agree p d (in_head refl)))
      ∙ ap (λ (x : ℕ). cond (joins_at w n F c p) 1 0 + 2 * x) (same_bits E F ps (λ q m. b q (in_Tail m)) (λ q d m. agree q d (in_Tail m)))

  -- relations that agree between neighbours have the same mask
  pub mask_same : (E F : ℕ → ℕ → Bool) → ((p d : ℕ) → p ∈ places → Stands w n c p d → E c d ≡ F c d)
      → mask_of places w n E c ≡ mask_of places w n F c
  unfolding mask_of
  mask_same E F agree = same_bits E F places R.within agree

  more_bits : (E F : ℕ → ℕ → Bool) (x : ℕ) → F c x ≡ true → E c x ≡ false → (p : ℕ) → Stands w n c p x → (j : ℕ) (ps : List ℕ)
      → Sorted j ps → ((q : ℕ) → q ∈ ps → q < 9) → p ∈ ps
      → ((q d : ℕ) → q ∈ ps → Stands w n c q d → (d ≡ x → ⊥) → E c d ≡ F c d)
      → bits (map (joins_at w n E c) ps) + bit_of ps p ≡ bits (map (joins_at w n F c) ps)
  more_bits E F x new old p S j [] s b m agree = absurd (in-none m)
  more_bits E F x new old p S j (q ∷ qs) (sorted_next h s) b m agree =
      go (eq_or_ne p q) (in-cases m)
      (λ i. more_bits E F x new old p S (suc q) qs s (λ r k. b r (in_Tail k)) i (λ r d k. agree r d (in_Tail k)))
    where
      other : (r d : ℕ) → (p ≡ r → ⊥) → Stands w n c r d → d ≡ x → ⊥
      other r d z T e = z (sym (stands_place S) ∙ ap (place_of w c) (sym e) ∙ stands_place T)

      go : (p ≡ q) ⊎ (p ≡ q → ⊥) → (p ≡ q) ⊎ (p ∈ qs)
          → (p ∈ qs → bits (map (joins_at w n E c) qs) + bit_of qs p ≡ bits (map (joins_at w n F c) qs))
          → bits (map (joins_at w n E c) (q ∷ qs)) + bit_of (q ∷ qs) p ≡ bits (map (joins_at w n F c) (q ∷ qs))
      go (inl e) k ih =
          let at_x : cell_at w c q ≡ x = ap (cell_at w c) (sym e) ∙ stands_cell S in
          let on : on_tile w n c q ≡ true = subst (λ (y : ℕ). on_tile w n c y ≡ true) e (stands_on S G) in
          let f : joins_at w n F c q ≡ true = rw (on, at_x) new in
          let g : joins_at w n E c q ≡ false = rw (on, at_x) old in
          let r : bits (map (joins_at w n E c) qs) ≡ bits (map (joins_at w n F c) qs) =
          same_bits E F qs (λ r i. b r (in_Tail i)) (λ r d i T.
          let l : suc q ≤ r = sorted_member s i in
          agree r d (in_Tail i) T (other r d (λ z. omega arith) T)) in
          rw (f, g, eq-eqb p q e) (omega arith)
      go (inr z) (inl e) ih = absurd (z e)
      go (inr z) (inr i) ih =
          let u = ih i in
          let t = test_same E F q (b q (in_head refl)) (λ d T. agree q d (in_head refl) T (other q d z T)) in
          rw (t, ne_eqb p q z) (omega arith)

  -- one neighbour x more adds the bit of its place
  pub mask_more : (E F : ℕ → ℕ → Bool) (p x : ℕ) → p ∈ places → Stands w n c p x → F c x ≡ true → E c x ≡ false
      → ((q d : ℕ) → q ∈ places → Stands w n c q d → (d ≡ x → ⊥) → E c d ≡ F c d)
      → mask_of places w n E c + bit_of places p ≡ mask_of places w n F c
  unfolding mask_of
  mask_more E F p x m S new old agree = more_bits E F x new old p S 0 places R.ascending R.within m agree

  both_bits : (E F : ℕ → ℕ → Bool) (ps : List ℕ) → ((p : ℕ) → p ∈ ps → p < 9)
      → ((p d : ℕ) → p ∈ ps → Stands w n c p d → E c d ≡ true → F c d ≡ true → ⊥)
      → bits (map (joins_at w n E c) ps) + bits (map (joins_at w n F c) ps) ≡ bits (map (joins_at w n (λ x y. E x y || F x y) c) ps)
  both_bits E F [] b apart = refl
  both_bits E F (p ∷ ps) b apart =
      let here =
      either (on_tile w n c p) (E c (cell_at w c p)) (F c (cell_at w c p))
      (λ t. apart p (cell_at w c p) (in_head refl) (on_stands w n c p (b p (in_head refl)) G.wide t)) in
      let rest = both_bits E F ps (λ q m. b q (in_Tail m)) (λ q d m. apart q d (in_Tail m)) in
      omega arith

  -- two relations that never join c to the same neighbour: no bit is there twice
  pub mask-both : (E F : ℕ → ℕ → Bool) → ((p d : ℕ) → p ∈ places → Stands w n c p d → E c d ≡ true → F c d ≡ true → ⊥)
      → mask_of places w n E c + mask_of places w n F c ≡ mask_of places w n (λ x y. E x y || F x y) c
  unfolding mask_of
  mask-both E F apart = both_bits E F places R.within apart

  no_bits : (ps : List ℕ) → bits (map (joins_at w n (λ x y. false) c) ps) ≡ 0
  no_bits [] = refl
  no_bits (p ∷ ps) = go (on_tile w n c p) (no_bits ps)
    where
      go : (t : Bool) {x : ℕ} → x ≡ 0 → cond (t && false) 1 0 + 2 * x ≡ 0
      go true e = omega arith
      go false e = omega arith

  -- a relation that joins c to no neighbour
  mask-none : (E : ℕ → ℕ → Bool) → ((p d : ℕ) → p ∈ places → Stands w n c p d → E c d ≡ false) → mask_of places w n E c ≡ 0
  unfolding mask_of
  mask-none E none = mask_same E (λ x y. false) none ∙ no_bits places

  -- where a cell leads to: the bit of the place, or 0 where it leads to itself
  module _ (f : ℕ → ℕ) where
    pub leads_itself : f c ≡ c → mask_of places w n (leads f) c ≡ 0
    leads_itself e =
        mask-none (leads f) (λ p d m S. never _ (λ t.
        R.no_middle (subst (λ (q : ℕ). q ∈ places) (stands_itself S (sym e ∙ eqb-true _ _ t)) m)))

    pub leads-place : (p : ℕ) → p ∈ places → Stands w n c p (f c) → mask_of places w n (leads f) c ≡ bit_of places p
    leads-place p m S =
        let z = mask-none (λ x y. false) (λ q d i T. refl) in
        let e = mask_more (λ x y. false) (leads f) p (f c) m S (eq-eqb (f c) (f c) refl) refl
        (λ q d i T ne. sym (ne_eqb (f c) d (λ q. ne (sym q)))) in
        omega arith

    -- and back: the bit of a place says that what stands there is where the cell leads to
    pub leads_stands : (p : ℕ) → p ∈ places → mask_of places w n (leads f) c ≡ bit_of places p → Stands w n c p (f c)
    leads_stands p m e = go (known (any found places))
      where
        found : ℕ → Bool
        found q = on_tile w n c q && eqb (f c) (cell_at w c q)

        at_place : (q : ℕ) → q ∈ places → found q ≡ true → Stands w n c q (f c)
        at_place q i t =
            subst (Stands w n c q) (sym (eqb-true _ _ (and_right (on_tile w n c q) _ t)))
            (on_stands w n c q (R.within q i) G.wide (and_left (on_tile w n c q) _ t))

        go : Known (any found places) → Stands w n c p (f c)
        go (is t) =
            let (q, i, u) = any_member found places t in
            let S = at_place q i u in
            subst (λ (r : ℕ). Stands w n c r (f c)) (sym (bit_one places m i (sym e ∙ leads-place q i S))) S
        go (isnt t) =
            let z : mask_of places w n (leads f) c ≡ 0 =
            mask-none (leads f) (λ q d i S. never _ (λ u. clash_false (any_holds found i
            (and_both _ _ (stands_on S G) (eq-eqb _ _ (eqb-true _ _ u ∙ sym (stands_cell S))))))) in
            let b = bit_some places m in
            absurd (omega arith)
          where
            clash_false : any found places ≡ true → ⊥
            clash_false v = false≢true (sym t ∙ v)

-- a list that is filled with masks says their relation
pub masks_filled : (places : List ℕ) (w n : ℕ) (E : ℕ → ℕ → Bool) (old masks : List ℕ) → masks ≡ filled (mask_of places w n E) n old
    → Masks places w n E masks
masks_filled places w n E old masks e c h = ap (λ (l : List ℕ). at l c) e ∙ filled_at (mask_of places w n E) n old c h
