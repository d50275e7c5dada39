-- Masks narrowed by a test: the bits of a relation's mask that pass a test of what stands at their places are the mask of the relation and
-- the test together. And what a list with a margin has for a place is the entry of the cell that stands there.
-- Assumes nothing.
use mathlib.Core.Bool.{Bool, cond, false, false≢true, true, ◌&&◌}
use mathlib.Core.List.Memᴰ.{cases_cons as in-cases}
use mathlib.Core.List.Memᴰ.{head as in_head}
use mathlib.Core.List.Memᴰ.{not-nil as in-none}
use mathlib.Core.List.{[], List}
use mathlib.Core.List.Memᴰ.{tail as in_Tail}
use mathlib.Core.List.{map, ◌∷◌}
use mathlib.Core.Logic.{inl, inr, ◌⊎◌}
use mathlib.Core.Path.{ap, refl, subst, sym, ◌∙◌, ◌≡◌}
use Prim.Native.Nat.{suc, ℕ, ◌%◌, ◌*◌, ◌+◌, ◌/◌, ◌<◌, ◌≤◌}
use native.Mathlib.Nat.{div-div-eq-div-mul, one-mul, zero-mul}
use native.Mathlib.Omega.{arith}
use borrow.Author.Tests.{eq-eqb, ne_eqb}
use Rattle.alike.specs.Narrowed.{beyond, bit_in, narrowed, narrowed_by}
use Rattle.grid.proofs.Corners.{corner-around, corner_diagonal, side_straight}
use Rattle.grid.proofs.Rules.{around_rule, rule_by_lem}
use Rattle.grid.proofs.Window.{beside_stands, on_stands, stands_number, stands_place}
use Rattle.grid.specs.Masks.{bit_of, bits, joins_at, mask_of}
use Rattle.grid.specs.Neighbours.{places_by}
use Rattle.grid.specs.Window.{around, beside, cell_at, corners, IsRule, on_tile, Rows, Stands}
use Rattle.lists.proofs.Sorted.{sorted_member}
use Rattle.lists.proofs.Tests.{and_left, and_right, eq_or_ne, never}
use Rattle.lists.specs.Ascending.{Sorted, sorted_next}
use Rattle.lists.specs.Lists.{at, ◌∈◌}
use Rattle.grid.specs.declared.Neighbours.{Neighbours}
use Rattle.grid.specs.declared.Neighbours.TheVariants.{Eight, Four}

-- the entry for a place where a cell stands is that cell's
pub beyond_stands : {w n c p d : ℕ} (l : List ℕ) → Stands w n c p d → beyond w l c p ≡ at l (d + 65)
beyond_stands {w} {n} {c} {p} {d} l S = let e = stands_number S in ap (at l) (omega arith)

-- the bit of a place tells its test
bits_digit : (u : ℕ → Bool) (ps : List ℕ) {p : ℕ} → p ∈ ps → bits (map u ps) / bit_of ps p % 2 ≡ cond (u p) 1 0
bits_digit u [] m = absurd (in-none m)
bits_digit u (q ∷ qs) {p} m = go (eq_or_ne p q) (in-cases m) (bits_digit u qs {p = p})
  where
    first : (t : Bool) (r : ℕ) → (cond t 1 0 + 2 * r) / 1 % 2 ≡ cond t 1 0
    first true r = omega arith
    first false r = omega arith

    rest : (t : Bool) (r : ℕ) → (cond t 1 0 + 2 * r) / 2 ≡ r
    rest true r = omega arith
    rest false r = omega arith

    go : (p ≡ q) ⊎ (p ≡ q → ⊥) → (p ≡ q) ⊎ (p ∈ qs) → (p ∈ qs → bits (map u qs) / bit_of qs p % 2 ≡ cond (u p) 1 0)
        → bits (map u (q ∷ qs)) / bit_of (q ∷ qs) p % 2 ≡ cond (u p) 1 0
    go (inl e) k ih = rw (eq-eqb p q e) (first (u q) (bits (map u qs)) ∙ ap (λ (x : ℕ). cond (u x) 1 0) (sym e))
    go (inr z) (inl e) ih = absurd (z e)
    go (inr z) (inr i) ih =
        rw (ne_eqb p q z)
        (ap (λ (x : ℕ). x % 2) (sym (div-div-eq-div-mul (bits (map u (q ∷ qs))) 2 (bit_of qs p)))
        ∙ ap (λ (x : ℕ). x / bit_of qs p % 2) (rest (u q) (bits (map u qs))) ∙ ih i)

-- a digit of 0 adds nothing
no_digit : (t : Bool) (bit : ℕ) → cond t (0 * bit) 0 ≡ 0
no_digit true bit = zero-mul bit
no_digit false bit = refl

-- the bits of the places that pass a test
abbrev passing : (places : List ℕ) → (ℕ → Bool) → List ℕ → ℕ
passing places u [] = 0
passing places u (p ∷ ps) = cond (u p) (bit_of places p) 0 + passing places u ps

-- one place more below all others doubles their bits
passing_double : (u : ℕ → Bool) (q : ℕ) (qs ps : List ℕ) → ((p : ℕ) → p ∈ ps → p ≡ q → ⊥) → passing (q ∷ qs) u ps ≡ 2 * passing qs u ps
passing_double u q qs [] new = refl
passing_double u q qs (p ∷ ps) new =
    let rest = passing_double u q qs ps (λ x m. new x (in_Tail m)) in
    let here : cond (u p) (bit_of (q ∷ qs) p) 0 ≡ 2 * cond (u p) (bit_of qs p) 0 = rw (ne_eqb p q (new p (in_head refl))) (double (u p) (bit_of qs p)) in
    omega arith
  where
    double : (t : Bool) (x : ℕ) → cond t (2 * x) 0 ≡ 2 * cond t x 0
    double true x = refl
    double false x = refl

-- those of all places are the mask
passing-all : (u : ℕ → Bool) (j : ℕ) (ps : List ℕ) → Sorted j ps → passing ps u ps ≡ bits (map u ps)
passing-all u j [] s = refl
passing-all u j (p ∷ ps) (sorted_next h s) =
    let rest = passing-all u (suc p) ps s in
    let more = passing_double u p ps ps (λ q m e. let l : suc p ≤ q = sorted_member s m in omega arith) in
    let here : cond (u p) (bit_of (p ∷ ps) p) 0 ≡ cond (u p) 1 0 = rw (eq-eqb p p refl) in
    omega arith

module _ {w n : ℕ} (G : Rows w n) {places : List ℕ} (R : IsRule places) (c : ℕ) (E : ℕ → ℕ → Bool) {mask : ℕ} (is-mask : mask ≡ mask_of places w n E c) where
  -- a mask's bit says whether the relation joins c to what stands there
  pub mask_digit : (p : ℕ) → p ∈ places → mask / bit_of places p % 2 ≡ cond (joins_at w n E c p) 1 0
  unfolding mask_of
  mask_digit p m = ap (λ (x : ℕ). x / bit_of places p % 2) is-mask ∙ bits_digit (joins_at w n E c) places m

  module _ (f : ℕ → ℕ → Bool) (test : ℕ → Bool)
      (agrees : (p d : ℕ) → p ∈ places → Stands w n c p d → E c d ≡ true → test p ≡ f c d) where
    abbrev both : ℕ → ℕ → Bool
    both x y = E x y && f x y

    here : (p : ℕ) → p ∈ places → cond (test p) (bit_in places mask p) 0 ≡ cond (joins_at w n both c p) (bit_of places p) 0
    here p m = ap (λ (x : ℕ). cond (test p) (x * bit_of places p) 0) (mask_digit p m) ∙ go (on_tile w n c p) refl (E c (cell_at w c p)) refl
      where
        go : (o : Bool) → on_tile w n c p ≡ o → (e : Bool) → E c (cell_at w c p) ≡ e
            → cond (test p) (cond (o && e) 1 0 * bit_of places p) 0 ≡ cond (o && (e && f c (cell_at w c p))) (bit_of places p) 0
        go false u e v = no_digit (test p) (bit_of places p)
        go true u false v = no_digit (test p) (bit_of places p)
        go true u true v =
            let S = on_stands w n c p (R.within p m) G.wide u in
            rw (one-mul, agrees p (cell_at w c p) m S v)

    all : (ps : List ℕ) → ((p : ℕ) → p ∈ ps → p ∈ places) → narrowed places mask test ps ≡ passing places (joins_at w n both c) ps
    all [] sub = refl
    all (p ∷ ps) sub = let a = here p (sub p (in_head refl)) in let b = all ps (λ q m. sub q (in_Tail m)) in omega arith

    -- the bits of all places that pass
    pub narrowed-mask : narrowed places mask test places ≡ mask_of places w n both c
    unfolding mask_of
    narrowed-mask = all places (λ p m. m) ∙ passing-all (joins_at w n both c) 0 places R.ascending

-- over the neighbours that are asked for
module _ {w n : ℕ} (G : Rows w n) (N : Neighbours) (c : ℕ) (E : ℕ → ℕ → Bool) (near : (d : ℕ) → d < n → E c d ≡ true → beside (places_by N) w c d ≡ true)
    {mask : ℕ} (is-mask : mask ≡ mask_of around w n E c) where
  -- a place that isn't asked for has no bit
  no_bit : (test : ℕ → Bool) (p : ℕ) → p ∈ around → (p ∈ places_by N → ⊥) → cond (test p) (bit_in around mask p) 0 ≡ 0
  no_bit test p m z = ap (λ (x : ℕ). cond (test p) (x * bit_of around p) 0) digit ∙ no_digit (test p) (bit_of around p)
    where
      apart : joins_at w n E c p ≡ true → ⊥
      apart t =
          let S = on_stands w n c p (around_rule.within p m) G.wide (and_left (on_tile w n c p) _ t) in
          let b = near (cell_at w c p) S.on (and_right (on_tile w n c p) _ t) in
          let (q, i, T) = beside_stands (places_by N) w n c (cell_at w c p) (rule_by_lem N) S.on b in
          z (subst (λ (x : ℕ). x ∈ places_by N) (sym (stands_place T) ∙ stands_place S) i)

      digit : mask / bit_of around p % 2 ≡ 0
      digit = mask_digit G around_rule c E is-mask p m ∙ rw (never (joins_at w n E c p) apart)

  pub narrowed_by_lem : (f : ℕ → ℕ → Bool) (test : ℕ → Bool) → ((p d : ℕ) → p ∈ around → Stands w n c p d → E c d ≡ true → test p ≡ f c d)
      → narrowed_by N mask test ≡ mask_of around w n (λ x y. E x y && f x y) c
  unfolding narrowed_by
  narrowed_by_lem f test agrees = go N (λ p m. no_bit test p m) (narrowed-mask G around_rule c E is-mask f test agrees)
    where
      go : (M : Neighbours) → ((p : ℕ) → p ∈ around → (p ∈ places_by M → ⊥) → cond (test p) (bit_in around mask p) 0 ≡ 0)
          → {x : ℕ} → narrowed around mask test around ≡ x → narrowed_by M mask test ≡ x
      go Eight none e = omega arith
      go Four none e =
          let a = corner 0 (in_head refl) in
          let b = corner 2 (in_Tail (in_head refl)) in
          let g = corner 6 (in_Tail (in_Tail (in_head refl))) in
          let h = corner 8 (in_Tail (in_Tail (in_Tail (in_head refl)))) in
          omega arith
        where
          corner : (p : ℕ) → p ∈ corners → cond (test p) (bit_in around mask p) 0 ≡ 0
          corner p m = none p (corner-around p m) (λ s. false≢true (sym (side_straight p s) ∙ corner_diagonal p m))

  -- by a test of a cell and an entry of a list with a margin
  pub narrowed-beyond : (f : ℕ → ℕ → Bool) (l : List ℕ)
      → narrowed_by N mask (λ p. f c (beyond w l c p)) ≡ mask_of around w n (λ x y. E x y && f x (at l (y + 65))) c
  narrowed-beyond f l =
      narrowed_by_lem (λ x y. f x (at l (y + 65))) (λ p. f c (beyond w l c p)) (λ p d m S e. ap (f c) (beyond_stands l S))
