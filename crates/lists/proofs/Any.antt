-- Whether some element of a list passes a test.
-- Assumes nothing.
use mathlib.Core.Bool.{Bool, false, false≢true, true, ◌||◌}
use mathlib.Core.List.Memᴰ.{head as in_head}
use mathlib.Core.List.Memᴰ.{tail as in_Tail}
use mathlib.Core.List.{[], List, ◌++◌, ◌∷◌}
use mathlib.Core.Path.{ap, refl, subst, sym, ◌∙◌, ◌≡◌}
use Prim.Native.Nat.{ℕ}
use lib.Dec.{eqb}
use borrow.Author.Tests.{eqb-true}
use Rattle.lists.proofs.Tests.{or_right}
use Rattle.lists.specs.Lists.{any, ◌∈◌}

module _ {A : Type 0} (p : A → Bool) where
  -- one that passes, both ways
  pub any_member : (l : List A) → any p l ≡ true → (a : A) × (a ∈ l) × (p a ≡ true)
  any_member [] e = absurd (false≢true e)
  any_member (x ∷ xs) e = go (p x) refl e (any_member xs)
    where
      go : (b : Bool) → p x ≡ b → b || any p xs ≡ true → (any p xs ≡ true → (a : A) × (a ∈ xs) × (p a ≡ true))
          → (a : A) × (a ∈ x ∷ xs) × (p a ≡ true)
      go true q r ih = (x, in_head refl, q)
      go false q r ih = let w = ih r in (w.0, in_Tail w.1, w.2)

  pub any_holds : {x : A} {l : List A} → x ∈ l → p x ≡ true → any p l ≡ true
  any_holds (in_head {xs = ys} e) t = rw (sym (ap p e) ∙ t)
  any_holds (in_Tail {x = y} m) t = or_right (p y) _ (any_holds m t)

  pub any_append : (a b : List A) → any p (a ++ b) ≡ any p a || any p b
  any_append [] b = refl
  any_append (x ∷ a) b = go (p x) (any_append a b)
    where
      go : (v : Bool) → any p (a ++ b) ≡ any p a || any p b → v || any p (a ++ b) ≡ (v || any p a) || any p b
      go true e = refl
      go false e = e

-- a number is in a list of which it equals some element
pub any_in : {x : ℕ} {l : List ℕ} → any (eqb x) l ≡ true → x ∈ l
any_in {x} {l} t = let (y, m, e) = any_member (eqb x) l t in subst (λ (z : ℕ). z ∈ l) (sym (eqb-true x y e)) m
