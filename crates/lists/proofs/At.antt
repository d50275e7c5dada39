-- The entries of a list and their places, and whether there are any.
-- Assumes nothing.
use mathlib.Core.List.Memᴰ.{cases_cons as in-cases}
use mathlib.Core.List.Memᴰ.{head as in_head}
use mathlib.Core.List.{[], List}
use mathlib.Core.List.Memᴰ.{not-nil as in-none}
use mathlib.Core.List.Memᴰ.{tail as in_Tail}
use mathlib.Core.List.{◌∷◌}
use mathlib.Core.Logic.{inl, inr, ◌⊎◌}
use mathlib.Core.Path.{refl, subst, sym, ◌∙◌, ◌≡◌}
use Prim.Native.Nat.{suc, zero, ℕ, ◌<◌, ◌≤◌}
use native.Mathlib.Omega.{arith}
use lib.ListN.{get_or, length, take}
use lib.Seq.{take-length}
use Rattle.lists.specs.Lists.{at, ◌∈◌}

module _ {A : Type 0} where
  pub get_d_member : (l : List A) (i : ℕ) (d : A) → i < length l → get_or l i d ∈ l
  get_d_member [] i d h = absurd (omega arith)
  get_d_member (x ∷ xs) zero d h = in_head refl
  get_d_member (x ∷ xs) (suc i) d h = in_Tail (get_d_member xs i d (omega arith))

  -- a member shows that there are some, and where nothing is one there are none
  pub member_some : {l : List A} {x : A} → x ∈ l → 0 < length l
  member_some (in_head e) = omega arith
  member_some (in_Tail m) = omega arith

  pub member_none : (l : List A) → ((x : A) → x ∈ l → ⊥) → l ≡ []
  member_none [] h = refl
  member_none (x ∷ xs) h = absurd (h x (in_head refl))

pub at_member : (l : List ℕ) (j : ℕ) → j < length l → at l j ∈ l
at_member l j = get_d_member l j 0

-- two members, two entries
pub member_two : (l : List ℕ) {x y : ℕ} → x ∈ l → y ∈ l → (x ≡ y → ⊥) → 2 ≤ length l
member_two [] m n d = absurd (in-none m)
member_two (z ∷ []) m n d = absurd (d (go (in-cases m) ∙ sym (go (in-cases n))))
  where
    go : {u : ℕ} → (u ≡ z) ⊎ (u ∈ []) → u ≡ z
    go (inl e) = e
    go (inr i) = absurd (in-none i)
member_two (z ∷ w ∷ more) m n d = omega arith

-- a member of a list's first i entries stands at one of these places
pub at-place-take : (i : ℕ) (l : List ℕ) {x : ℕ} → x ∈ take i l → (j : ℕ) × (j < i) × (j < length l) × (x ≡ at l j)
at-place-take zero l m = absurd (in-none m)
at-place-take (suc i) [] m = absurd (in-none m)
at-place-take (suc i) (y ∷ ys) {x} m = go (in-cases m) (at-place-take i ys)
  where
    go : (x ≡ y) ⊎ (x ∈ take i ys) → (x ∈ take i ys → (j : ℕ) × (j < i) × (j < length ys) × (x ≡ at ys j))
        → (j : ℕ) × (j < suc i) × (j < length (y ∷ ys)) × (x ≡ at (y ∷ ys) j)
    go (inl e) ih = (0, omega arith, omega arith, e)
    go (inr h) ih = let r = ih h in (suc r.0, omega (arith, r.1), omega (arith, r.2), r.3)

-- a member stands at a place
pub at_place : (l : List ℕ) {x : ℕ} → x ∈ l → (j : ℕ) × (j < length l) × (x ≡ at l j)
at_place l {x} m = let r = at-place-take (length l) l (subst (λ (k : List ℕ). x ∈ k) (sym (take-length l)) m) in (r.0, r.2, r.3)
