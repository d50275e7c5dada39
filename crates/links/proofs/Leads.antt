-- A cell's own weight and what its neighbours' weights add are the mask of its links, whatever neighbours are asked for: a neighbour adds its
-- bit where it leads to the cell, and then the cell doesn't lead to the neighbour, so that no bit is added twice.
-- Assumes nothing.
use mathlib.Core.Bool.{Bool, cond, true, ◌&&◌}
use mathlib.Core.List.{List}
use mathlib.Core.Logic.{inl, inr, ◌⊎◌}
use mathlib.Core.Path.{ap, refl, subst, sym, ◌∙◌, ◌≡◌}
use Prim.Native.Nat.{ℕ, ◌%◌, ◌*◌, ◌+◌, ◌-◌, ◌/◌, ◌<◌, ◌≤◌}
use native.Mathlib.Omega.{arith}
use lib.Dec.{eqb, leb, ltb}
use borrow.Author.Tests.{eq-eqb, eqb-true, le-leb, leb-true, lt-ltb, ltb-true}
use Rattle.grid.proofs.Masks.{leads-place, leads_stands, mask-both}
use Rattle.grid.proofs.Rules.{around-all, around_rule}
use Rattle.grid.proofs.Window.{on_stands, stands_back, stands_cell, stands_itself, stands_number, stands_on}
use Rattle.grid.specs.Masks.{bit_of, joined, joins_at, leads, mask_of}
use Rattle.grid.specs.Window.{around, cell_at, on_tile, Stands}
use Rattle.links.specs.Leads.{added_both, added_corners, added_to, Leading}
use Rattle.lists.proofs.Tests.{and_both, and_left, and_right, cond_times, same_test}
use Rattle.lists.specs.Lists.{at, ◌∈◌}
use Rattle.grid.specs.declared.Neighbours.{Neighbours}

-- the other way round
abbrev back : (ℕ → ℕ) → ℕ → ℕ → Bool
back f c d = eqb (f d) c

-- what all passes add
abbrev pub added_all : (w n : ℕ) (weights : List ℕ) (i : ℕ) → ℕ
added_all w n weights i = added_both 1 n weights 8 16 i + (added_both w n weights 2 64 i + added_corners w n weights i)

-- what the test of a pass says
abbrev pub Found : (after before n : ℕ) (weights : List ℕ) (k i : ℕ) → Type 0
Found after before n weights k i = (before ≤ i) × (i + after < n) × (at weights (i + after - before) ≡ k)

module _ (after before n : ℕ) (weights : List ℕ) (k i : ℕ) where
  abbrev pub test : Bool
  test = leb before i && (ltb (i + after) n && eqb (at weights (i + after - before)) k)

  pub test_found : test ≡ true → Found after before n weights k i
  test_found t =
      let r = and_right (leb before i) _ t in (
        leb-true before i (and_left (leb before i) _ t),
        ltb-true (i + after) n (and_left (ltb (i + after) n) _ r),
        eqb-true _ _ (and_right (ltb (i + after) n) _ r),
      )

  found_test : Found after before n weights k i → test ≡ true
  found_test (h, l, e) = and_both _ _ (le-leb before i h) (and_both _ _ (lt-ltb (i + after) n l) (eq-eqb _ _ e))

module _ {N : Neighbours} {w n : ℕ} {f : ℕ → ℕ} {weights : List ℕ} (K : Leading N w n f weights) where
  -- a weight's bit is that of the place where the cell leads to
  pub weight_stands : (x q : ℕ) → x < n → q ∈ around → at weights x ≡ bit_of around q → Stands w n x q (f x)
  weight_stands x q h m e = leads_stands K.grid.rows around_rule x f q m (sym (K.masks x h) ∙ e)

  stands_weight : (x q : ℕ) → x < n → q ∈ around → Stands w n x q (f x) → at weights x ≡ bit_of around q
  stands_weight x q h m S = K.masks x h ∙ leads-place K.grid.rows around_rule x f q m S

  module _ (i : ℕ) (on : i < n) where
    -- 1 where the neighbour at place p leads to the cell, otherwise 0
    abbrev led : ℕ → ℕ
    led p = cond (joins_at w n (back f) i p) 1 0

    -- what the neighbour at place p adds, which is so many places after the cell or before it and has the cell at place q
    adds : (p q after before : ℕ) → p ∈ around → q ∈ around → p + q ≡ 8 → (after ≡ 0) ⊎ (before ≡ 0)
        → after + (w + 1) ≡ p / 3 * w + p % 3 + before
        → added_to after before n weights (bit_of around q) (bit_of around p) i ≡ bit_of around p * led p
    adds p q after before k j s z e =
        ap (λ (b : Bool). cond b (bit_of around p) 0) (same_test _ _ to from) ∙ cond_times (joins_at w n (back f) i p) (bit_of around p)
      where
        x : ℕ
        x = i + after - before

        to : test after before n weights (bit_of around q) i ≡ true → joins_at w n (back f) i p ≡ true
        to t =
            let (h, l, g) = test_found after before n weights (bit_of around q) i t in
            let v : x < n = omega arith in
            let S = weight_stands x q v j g in
            let o : 8 - q ≡ p = omega arith in
            let B : Stands w n (f x) p x = subst (λ (y : ℕ). Stands w n (f x) y x) o (stands_back S v) in
            let u = stands_number B in
            let r : f x ≡ i = omega arith in
            let H : Stands w n i p x = subst (λ (y : ℕ). Stands w n y p x) r B in
            and_both _ _ (stands_on H K.grid.rows) (eq-eqb _ _ (ap f (stands_cell H) ∙ r))

        fits : (after ≡ 0) ⊎ (before ≡ 0) → cell_at w i p + before ≡ i + after → cell_at w i p < n → (before ≤ i) × (i + after < n)
        fits (inl e) r o = (omega arith, omega arith)
        fits (inr e) r o = (omega arith, omega arith)

        from : joins_at w n (back f) i p ≡ true → test after before n weights (bit_of around q) i ≡ true
        from t =
            let S = on_stands w n i p (around_rule.within p k) K.grid.rows.wide (and_left (on_tile w n i p) _ t) in
            let u = stands_number S in
            let (h, l) = fits z (omega arith) S.on in
            let g : x ≡ cell_at w i p = omega arith in
            let r : f (cell_at w i p) ≡ i = eqb-true _ _ (and_right (on_tile w n i p) _ t) in
            let o : 8 - p ≡ q = omega arith in
            let B : Stands w n (cell_at w i p) q (f (cell_at w i p)) =
            subst (Stands w n (cell_at w i p) q) (sym r) (subst (λ (y : ℕ). Stands w n (cell_at w i p) y i) o (stands_back S on)) in
            found_test after before n weights (bit_of around q) i
            (h, l, ap (at weights) g ∙ stands_weight (cell_at w i p) q S.on j B)

    -- two passes: one for the neighbour so many places after the cell, at place p, and one for that before it, at place q
    both_add : (p q step : ℕ) → 4 < p → p + q ≡ 8 → step + (w + 1) ≡ p / 3 * w + p % 3 → w + 1 ≡ q / 3 * w + q % 3 + step
        → added_both step n weights (bit_of around q) (bit_of around p) i ≡ bit_of around q * led q + bit_of around p * led p
    both_add p q step h s e d =
        let k = around-all p (omega arith) (λ z. omega arith) in
        let j = around-all q (omega arith) (λ z. omega arith) in
        let a = adds q p 0 step j k (omega arith) (inl refl) (omega arith) in
        let b = adds p q step 0 k j s (inr refl) (omega arith) in
        omega arith

    -- all passes: the mask of the neighbours that lead to the cell
    all_added : added_all w n weights i ≡ mask_of around w n (back f) i
    unfolding mask_of
    all_added =
        let wide = K.grid.rows.wide in
        let a = both_add 5 3 1 (omega arith) refl (omega arith) (omega arith) in
        let b = both_add 7 1 w (omega arith) refl (omega arith) (omega arith) in
        let c = both_add 6 2 (w - 1) (omega arith) refl (omega arith) (omega arith) in
        let d = both_add 8 0 (w + 1) (omega arith) refl (omega arith) (omega arith) in
        omega arith

    -- with the cell's own weight: the mask of its links
    pub all_links : at weights i + added_all w n weights i ≡ mask_of around w n (joined f) i
    all_links =
        let own = K.masks i on in
        let added = all_added in
        let whole =
        mask-both K.grid.rows around_rule i (leads f) (back f)
        (λ p d m S a b. around_rule.no_middle (subst (λ (q : ℕ). q ∈ around)
        (stands_itself S (K.one_way i d on S.on (eqb-true _ _ a) (eqb-true _ _ b))) m)) in
        omega arith
