-- A step taken many times.
-- Assumes nothing.
use mathlib.Core.Path.{ap, refl, sym, ◌∙◌, ◌≡◌}
use Prim.Native.Nat.{suc, zero, ℕ, ◌+◌, ◌-◌, ◌<◌, ◌≤◌}
use native.Mathlib.Nat.{suc-add, zero-add}
use native.Mathlib.Omega.{arith}
use Rattle.lists.specs.Lists.{repeat}

module _ {A : Type 0} (f : A → A) where
  pub repeat_fixed : (k : ℕ) (x : A) → f x ≡ x → repeat k f x ≡ x
  repeat_fixed zero x e = refl
  repeat_fixed (suc k) x e = ap (repeat k f) e ∙ repeat_fixed k x e

  pub repeat-last : (k : ℕ) (x : A) → repeat k f (f x) ≡ f (repeat k f x)
  repeat-last zero x = refl
  repeat-last (suc k) x = repeat-last k (f x)

  pub repeat_add : (j k : ℕ) (x : A) → repeat (j + k) f x ≡ repeat k f (repeat j f x)
  repeat_add zero k x = ap (λ (m : ℕ). repeat m f x) (zero-add k)
  repeat_add (suc j) k x = ap (λ (m : ℕ). repeat m f x) (suc-add j k) ∙ repeat_add j k (f x)

  -- what i steps lead to is met again after j: from then on, a round later is the same
  pub repeat_round : (i j : ℕ) (x : A) → i < j → repeat i f x ≡ repeat j f x → (m : ℕ) → i ≤ m → repeat (m + (j - i)) f x ≡ repeat m f x
  repeat_round i j x l same m h =
      let e : m + (j - i) ≡ j + (m - i) = omega arith in
      let n : i + (m - i) ≡ m = omega arith in
      ap (λ (k : ℕ). repeat k f x) e
      ∙ repeat_add j (m - i) x
      ∙ ap (repeat (m - i) f) (sym same)
      ∙ sym (repeat_add i (m - i) x)
      ∙ ap (λ (k : ℕ). repeat k f x) n
