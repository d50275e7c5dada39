-- The lists of all elements, one after the other.
-- Assumes nothing.
use mathlib.Core.List.Memᴰ.{append_cases as in-append}
use mathlib.Core.List.{[], append_assoc, append-nil, List}
use mathlib.Core.List.Memᴰ.{head as in_head}
use mathlib.Core.List.Memᴰ.{not-nil as in-none}
use mathlib.Core.List.Memᴰ.{tail as in_Tail}
use mathlib.Core.List.Memᴰ.{append_left as in_left}
use mathlib.Core.List.Memᴰ.{append_right as in_right}
use mathlib.Core.List.{map, ◌++◌, ◌∷◌}
use mathlib.Core.Logic.{inl, inr, ◌⊎◌}
use mathlib.Core.Path.{ap, refl, subst, sym, ◌∙◌, ◌≡◌}
use Prim.Native.Nat.{ℕ, ◌+◌, ◌≤◌}
use native.Mathlib.Nat.{le_refl, zero-add}
use native.Mathlib.Omega.{arith}
use lib.ListN.{length, length-append}
use Rattle.lists.proofs.Range.{range_split}
use Rattle.lists.specs.Lists.{flat, range, sum, upto, ◌∈◌}

module _ {A B : Type 0} where
  -- members, both ways
  pub flat_member : (f : A → List B) (l : List A) {b : B} → b ∈ flat f l → (a : A) × (a ∈ l) × (b ∈ f a)
  flat_member f [] m = absurd (in-none m)
  flat_member f (x ∷ xs) {b} m = go (in-append (f x) m) (flat_member f xs)
    where
      go : (b ∈ f x) ⊎ (b ∈ flat f xs) → (b ∈ flat f xs → (a : A) × (a ∈ xs) × (b ∈ f a)) → (a : A) × (a ∈ x ∷ xs) × (b ∈ f a)
      go (inl i) ih = (x, in_head refl, i)
      go (inr i) ih = let r = ih i in (r.0, in_Tail r.1, r.2)

  pub flat_holds : (f : A → List B) {a : A} {b : B} {l : List A} → a ∈ l → b ∈ f a → b ∈ flat f l
  flat_holds f {b = z} (in_head {x = x} {xs = xs} e) m = in_left (flat f xs) (subst (λ (w : A). z ∈ f w) e m)
  flat_holds f (in_Tail {x = x} i) m = in_right (f x) (flat_holds f i m)

  pub flat_append : (f : A → List B) (a b : List A) → flat f (a ++ b) ≡ flat f a ++ flat f b
  flat_append f [] b = refl
  flat_append f (x ∷ xs) b = ap (λ (l : List B). f x ++ l) (flat_append f xs b) ∙ sym (append_assoc (f x) (flat f xs) (flat f b))

  -- functions that agree on the list
  pub flat_same : (f g : A → List B) (l : List A) → ((x : A) → x ∈ l → f x ≡ g x) → flat f l ≡ flat g l
  flat_same f g [] h = refl
  flat_same f g (x ∷ xs) h = rw (h x (in_head refl), flat_same f g xs (λ y m. h y (in_Tail m)))

  -- lists of at most one element each
  pub flat_few : (f : A → List B) (l : List A) → ((x : A) → length (f x) ≤ 1) → length (flat f l) ≤ length l
  flat_few f [] h = omega arith
  flat_few f (x ∷ xs) h = omega (arith, h x, flat_few f xs h, length-append (f x) (flat f xs))

-- lists no longer than the lists they are made of
pub flat-length : {A B : Type 0} (f : List A → List B) (l : List (List A)) → ((x : List A) → x ∈ l → length (f x) ≤ length x)
    → length (flat f l) ≤ sum (map length l)
flat-length f [] h = le_refl 0
flat-length f (x ∷ xs) h =
    let a : length (f x) ≤ length x = h x (in_head refl) in
    let b : length (flat f xs) ≤ sum (map length xs) = flat-length f xs (λ y m. h y (in_Tail m)) in
    omega (arith, length-append (f x) (flat f xs))

-- the lists of one number more
pub flat-next : {B : Type 0} (f : ℕ → List B) (n : ℕ) → flat f (upto (n + 1)) ≡ flat f (upto n) ++ f n
flat-next {B} f n =
    ap (flat f) (range_split 0 n 1)
    ∙ flat_append f (upto n) (range (0 + n) 1)
    ∙ ap (λ (k : ℕ). flat f (upto n) ++ (f k ++ [])) (zero-add n)
    ∙ ap (λ (l : List B). flat f (upto n) ++ l) (append-nil (f n))
