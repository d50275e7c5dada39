-- The weight of a level step by counts and a mask: the bit of where the neighbour with the least number stands whose count is one less, and 0 where
-- there is none. Ascending places are ascending cells, so the first place that passes is that neighbour's.
-- Assumes nothing.
use Rattle.std.proofs.Common.{◌≡◌, ℕ, suc, ◌+◌, ◌<◌, ◌≤◌, Bool, true, false, ◌&&◌, eqb, ◌⊎◌, List, [], ◌∷◌, sym, refl, ap, ◌∙◌, subst, inl, inr, true≢false}
use Rattle.std.proofs.Common.{arith, eq-eqb, ne_eqb, eqb-true}
use mathlib.Core.List.Memᴰ.{cases_cons as in-cases}
use mathlib.Core.List.Memᴰ.{head as in_head}
use mathlib.Core.List.Memᴰ.{not-nil as in-none}
use mathlib.Core.List.Memᴰ.{tail as in_Tail}
use Rattle.grid.proofs.Masks.{leads_itself, leads-place, mask_same}
use Rattle.grid.proofs.Rules.{around_rule, places-around, rule_by_lem}
use Rattle.grid.proofs.Window.{beside_stands, on_stands, stands_cell, stands_itself, stands_less, stands_on}
use Rattle.grid.specs.Masks.{bit_of, joins_at, leads, mask_of}
use Rattle.grid.specs.Neighbours.{places_by}
use Rattle.grid.specs.Window.{around, beside, cell_at, Grid, on_tile, Stands}
use Rattle.lists.proofs.Find.{find_before, find_found, find-left}
use Rattle.lists.proofs.Sorted.{sorted_member}
use Rattle.lists.proofs.Tests.{and_left, lt_or_ge, never, same_test}
use Rattle.lists.specs.Ascending.{Sorted, sorted_next}
use Rattle.lists.specs.Find.{find}
use Rattle.lists.specs.Lists.{at, ◌∈◌}
use Rattle.lowest.proofs.Margins.{entry_stands, mask_bit}
use Rattle.sheet.specs.LevelSteps.{first_bit, one_less, steps_to, step_weight}
use Rattle.grid.specs.declared.Neighbours.{Neighbours}

-- the bit of the first place that passes
first_bit_lem : (t : ℕ → Bool) (j : ℕ) (ps : List ℕ) → Sorted j ps → {q : ℕ} → q ∈ ps → t q ≡ true → ((p : ℕ) → p ∈ ps → p < q → t p ≡ false)
    → first_bit t ps ≡ bit_of around q
first_bit_lem t j [] s m u f = absurd (in-none m)
first_bit_lem t j (x ∷ xs) (sorted_next l s) {q} m u f = go (in-cases m) (λ i. first_bit_lem t (suc x) xs s i u (λ p k. f p (in_Tail k)))
  where
    go : (q ≡ x) ⊎ (q ∈ xs) → (q ∈ xs → first_bit t xs ≡ bit_of around q) → first_bit t (x ∷ xs) ≡ bit_of around q
    go (inl e) ih = let v : t x ≡ true = subst (λ (y : ℕ). t y ≡ true) e u in rw v (ap (bit_of around) (sym e))
    go (inr i) ih = let k : suc x ≤ q = sorted_member s i in rw (f x (in_head refl) (omega arith)) (ih i)

-- and where none does
no_bit : (t : ℕ → Bool) (ps : List ℕ) → ((p : ℕ) → p ∈ ps → t p ≡ false) → first_bit t ps ≡ 0
no_bit t [] f = refl
no_bit t (x ∷ xs) f = rw (f x (in_head refl)) (no_bit t xs (λ p m. f p (in_Tail m)))

-- one less, where it is asked for
less-test : (a b : ℕ) → 0 < b → b < 65536 → eqb a (one_less b) ≡ eqb (suc a) b
less-test a b h k =
    same_test (eqb a (one_less b)) (eqb (suc a) b)
    (λ t. let e = eqb-true a (one_less b) t in eq-eqb (suc a) b (omega arith))
    (λ t. let e = eqb-true (suc a) b t in eq-eqb a (one_less b) (omega arith))

-- the mask of c says E, which joins neighbours only, and the list has each cell's count after a margin
module _ (N : Neighbours) {w n : ℕ} (G : Grid w n) (E : ℕ → ℕ → Bool)
    (near : (a b : ℕ) → E a b ≡ true → beside (places_by N) w a b ≡ true) (count : ℕ → ℕ) (counts : List ℕ)
    (are : (d : ℕ) → d < n → at counts (d + 65) ≡ count d) (c : ℕ) (on : c < n) (some : 0 < count c) (small : count c < 65536) where
  -- d is joined to c, and its count is one less
  abbrev test : ℕ → Bool
  test d = E c d && eqb (suc (count d)) (count c)

  abbrev mask : ℕ
  mask = mask_of around w n E c

  abbrev steps : ℕ → Bool
  steps = steps_to w counts c mask

  -- a place passes where the tile has a cell there that does
  place-passes : (p d : ℕ) → p ∈ around → Stands w n c p d → steps p ≡ test d
  place-passes p d m S =
      let joins : joins_at w n E c p ≡ E c d = rw (stands_on S G.rows, stands_cell S) in
      let there : at counts (d + 65) ≡ count d = are d S.on in
      let here : at counts (c + 65) ≡ count c = are c on in
      rw (mask_bit w n E c p m, joins, entry_stands p d m S, there, here, less-test (count d) (count c) some small)

  passes-there : (p : ℕ) → p ∈ around → steps p ≡ true → Stands w n c p (cell_at w c p) × (test (cell_at w c p) ≡ true)
  passes-there p m t =
      let j : joins_at w n E c p ≡ true = sym (mask_bit w n E c p m) ∙ and_left _ _ t in
      let S = on_stands w n c p (around_rule.within p m) G.rows.wide (and_left (on_tile w n c p) _ j) in
      (S, sym (place-passes p (cell_at w c p) m S) ∙ t)

  module _ (f : ℕ → ℕ) (is : f c ≡ find test n) where
    found : find test n < n → step_weight N w counts c mask ≡ mask_of around w n (leads f) c
    unfolding step_weight
    found h =
        let d : ℕ = find test n in
        let t : test d ≡ true = find_found test n h in
        let (q, i, S) = beside_stands (places_by N) w n c d (rule_by_lem N) h (near c d (and_left _ _ t)) in
        let m = places-around (rule_by_lem N) q i in
        first_bit_lem steps 0 (places_by N) (rule_by_lem N).ascending i (place-passes q d m S ∙ t)
        (λ p k l. never _ (λ u.
        let (T, v) = passes-there p (places-around (rule_by_lem N) p k) u in
        true≢false (sym v ∙ find_before test n (cell_at w c p) (stands_less T G.rows.wide S l))))
        ∙ sym (leads-place G.rows around_rule c f q m (subst (Stands w n c q) (sym is) S))

    -- no cell has this number
    nowhere : n ≤ find test n → step_weight N w counts c mask ≡ mask_of around w n (leads f) c
    unfolding step_weight
    nowhere h =
        no_bit steps (places_by N) (λ p k. never _ (λ u.
        let (T, v) = passes-there p (places-around (rule_by_lem N) p k) u in
        true≢false (sym v ∙ find-left test n h (cell_at w c p) T.on)))
        ∙ sym (mask_same G.rows around_rule c (leads f) (leads (λ x. x)) apart ∙ leads_itself G.rows around_rule c (λ x. x) refl)
      where
        apart : (p d : ℕ) → p ∈ around → Stands w n c p d → eqb (f c) d ≡ eqb c d
        apart p d m S =
            let o = S.on in
            ne_eqb (f c) d (λ e. omega arith)
            ∙ sym (ne_eqb c d (λ e. around_rule.no_middle (subst (λ (q : ℕ). q ∈ around) (stands_itself S e) m)))

    -- the weight of c's level step says where c leads to
    pub step_leads : step_weight N w counts c mask ≡ mask_of around w n (leads f) c
    step_leads = go (lt_or_ge (find test n) n)
      where
        go : (find test n < n) ⊎ (n ≤ find test n) → step_weight N w counts c mask ≡ mask_of around w n (leads f) c
        go (inl h) = found h
        go (inr h) = nowhere h
