-- A function of every element of a list.
-- Assumes nothing.
use mathlib.Core.List.Memᴰ.{cases_cons as in-cases}
use mathlib.Core.List.{[], cons-ne-nil, head-eq_of_cons-eq, List}
use mathlib.Core.List.Memᴰ.{head as in_head}
use mathlib.Core.List.Memᴰ.{not-nil as in-none}
use mathlib.Core.List.Memᴰ.{tail as in_Tail}
use mathlib.Core.List.{map}
use mathlib.Core.List.{tail-eq_of_cons-eq, ◌∷◌}
use mathlib.Core.Logic.{inl, inr, ◌⊎◌}
use mathlib.Core.Path.{ap, refl, sym, ◌∙◌, ◌≡◌}
use Prim.Native.Nat.{suc, zero, ℕ, ◌<◌}
use native.Mathlib.Nat.{le_of_suc-le-suc, not-suc-le-zero}
use lib.ListN.{get_or, length}
use Rattle.lists.specs.Lists.{◌∈◌}

module _ {A B : Type 0} where
  -- members, both ways
  pub map_member : (f : A → B) (l : List A) {b : B} → b ∈ map f l → (a : A) × (a ∈ l) × (b ≡ f a)
  map_member f [] m = absurd (in-none m)
  map_member f (x ∷ xs) {b} m = go (in-cases m) (map_member f xs)
    where
      go : (b ≡ f x) ⊎ (b ∈ map f xs) → (b ∈ map f xs → (a : A) × (a ∈ xs) × (b ≡ f a)) → (a : A) × (a ∈ x ∷ xs) × (b ≡ f a)
      go (inl e) ih = (x, in_head refl, e)
      go (inr i) ih = let r = ih i in (r.0, in_Tail r.1, r.2)

  pub map_holds : (f : A → B) {a : A} {l : List A} → a ∈ l → f a ∈ map f l
  map_holds f (in_head e) = in_head (ap f e)
  map_holds f (in_Tail m) = in_Tail (map_holds f m)

  -- the entry at a place
  pub map_at : (f : A → B) (l : List A) (i : ℕ) (d : A) (e : B) → i < length l → get_or (map f l) i e ≡ f (get_or l i d)
  map_at f [] i d e h = absurd (not-suc-le-zero h)
  map_at f (x ∷ xs) zero d e h = refl
  map_at f (x ∷ xs) (suc i) d e h = map_at f xs i d e (le_of_suc-le-suc h)

  -- functions that agree on the list
  pub map_same : (f g : A → B) (l : List A) → ((x : A) → x ∈ l → f x ≡ g x) → map f l ≡ map g l
  map_same f g [] h = refl
  map_same f g (x ∷ xs) h = rw (h x (in_head refl), map_same f g xs (λ y m. h y (in_Tail m)))

  -- lists that f makes one are one, if f tells their members apart
  pub map-one : (f : A → B) (a b : List A) → ((x y : A) → x ∈ a → y ∈ b → f x ≡ f y → x ≡ y) → map f a ≡ map f b → a ≡ b
  map-one f [] [] h e = refl
  map-one f [] (y ∷ ys) h e = absurd (cons-ne-nil (f y) (map f ys) (sym e))
  map-one f (x ∷ xs) [] h e = absurd (cons-ne-nil (f x) (map f xs) e)
  map-one f (x ∷ xs) (y ∷ ys) h e =
      ap (λ (z : A). z ∷ xs) (h x y (in_head refl) (in_head refl) (head-eq_of_cons-eq e))
      ∙ ap (λ (l : List A). y ∷ l) (map-one f xs ys (λ u v i j. h u v (in_Tail i) (in_Tail j)) (tail-eq_of_cons-eq e))
