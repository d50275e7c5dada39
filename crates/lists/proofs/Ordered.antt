-- Lists in any strict order: two with the same members are one list.
-- Assumes nothing.
use mathlib.Core.List.Memᴰ.{cases_cons as in-cases}
use mathlib.Core.List.Memᴰ.{head as in_head}
use mathlib.Core.List.Memᴰ.{not-nil as in-none}
use mathlib.Core.List.{[], List}
use mathlib.Core.List.Memᴰ.{tail as in_Tail}
use mathlib.Core.List.{◌∷◌}
use mathlib.Core.Logic.{inl, inr, ◌⊎◌}
use mathlib.Core.Path.{ap, refl, subst, sym, ◌∙◌, ◌≡◌}
use Rattle.lists.specs.Lists.{◌∈◌}

-- a list in which each entry stands before all that follow it is determined by its members, whatever the order
module _ {A : Type 0} (Before : A → A → Type 0) (strict : (x y : A) → Before x y → Before y x → ⊥) (Ordered : List A → Type 0)
    (first : (x : A) (xs : List A) → Ordered (x ∷ xs) → (y : A) → y ∈ xs → Before x y)
    (rest : (x : A) (xs : List A) → Ordered (x ∷ xs) → Ordered xs) where
  later : (x : A) (xs : List A) → Ordered (x ∷ xs) → (y : A) → y ∈ xs → y ≡ x → ⊥
  later x xs s y m e = let b : Before x x = subst (Before x) e (first x xs s y m) in strict x x b b

  pub ordered_same : (a b : List A) → Ordered a → Ordered b → ((x : A) → x ∈ a → x ∈ b) → ((x : A) → x ∈ b → x ∈ a) → a ≡ b
  ordered_same [] [] s t f g = refl
  ordered_same [] (y ∷ ys) s t f g = absurd (in-none (g y (in_head refl)))
  ordered_same (x ∷ xs) [] s t f g = absurd (in-none (f x (in_head refl)))
  ordered_same (x ∷ xs) (y ∷ ys) s t f g =
      go (heads (in-cases (f x (in_head refl))) (in-cases (g y (in_head refl)))) (ordered_same xs ys (rest x xs s) (rest y ys t))
    where
      heads : (x ≡ y) ⊎ (x ∈ ys) → (y ≡ x) ⊎ (y ∈ xs) → x ≡ y
      heads (inl e) q = e
      heads (inr m) (inl e) = sym e
      heads (inr m) (inr n) = absurd (strict x y (first x xs s y n) (first y ys t x m))

      lose : {z u : A} {us : List A} → (z ≡ u) ⊎ (z ∈ us) → (z ≡ u → ⊥) → z ∈ us
      lose (inl e) n = absurd (n e)
      lose (inr m) n = m

      go : x ≡ y → (((z : A) → z ∈ xs → z ∈ ys) → ((z : A) → z ∈ ys → z ∈ xs) → xs ≡ ys) → (x ∷ xs) ≡ (y ∷ ys)
      go e ih =
          ap (λ (z : A). z ∷ xs) e
          ∙ ap (λ (l : List A). y ∷ l)
          (ih (λ z m. lose (in-cases (f z (in_Tail m))) (λ q. later x xs s z m (q ∙ sym e)))
          (λ z m. lose (in-cases (g z (in_Tail m))) (λ q. later y ys t z m (q ∙ e))))
