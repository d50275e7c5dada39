-- Ascending lists: how they are built, that their members determine them, what is kept of one, and that the first entry is the least.
-- Assumes nothing.
use mathlib.Core.Bool.{Bool}
use mathlib.Core.List.Memᴰ.{cases_cons as in-cases}
use mathlib.Core.List.Memᴰ.{not-nil as in-none}
use mathlib.Core.List.{[], List, ◌∷◌}
use mathlib.Core.Logic.{inl, inr, ◌⊎◌}
use mathlib.Core.Path.{subst, sym, ◌≡◌}
use Prim.Native.Nat.{suc, ℕ, ◌<◌, ◌≤◌}
use native.Mathlib.Omega.{arith}
use lib.ListN.{length}
use Rattle.lists.proofs.At.{at_place}
use Rattle.lists.proofs.Ordered.{ordered_same}
use Rattle.lists.proofs.Rising.{rising_ascends, rising_keep, rising_range}
use Rattle.lists.proofs.Tests.{eq, gt, lt, Three, three}
use Rattle.lists.specs.Ascending.{Ascending, AscendingBy, Rising, rising_next, rising_none}
use Rattle.lists.specs.Lists.{at, keep, Once, once_next, once_none, upto, ◌∈◌}

module _ (f : ℕ → ℕ) where
  pub ascending_rises : (l : List ℕ) → AscendingBy f l → Rising f l
  ascending_rises [] u = rising_none
  ascending_rises (x ∷ xs) u =
      rising_next (λ y m. go y (at_place xs m)) (ascending_rises xs (λ i j h k. u (suc i) (suc j) (omega arith) (omega arith)))
    where
      go : (y : ℕ) → (j : ℕ) × (j < length xs) × (y ≡ at xs j) → f x < f y
      go y (j, h, e) = subst (λ (z : ℕ). f x < f z) (sym e) (u 0 (suc j) (omega arith) (omega arith))

  -- an ascending list is determined by its members
  pub ascending_same : (a b : List ℕ) → AscendingBy f a → AscendingBy f b → ((x : ℕ) → x ∈ a → x ∈ b) → ((x : ℕ) → x ∈ b → x ∈ a) → a ≡ b
  ascending_same a b u v =
      ordered_same (λ x y. f x < f y) (λ x y h l. omega arith) (Rising f) first rest a b (ascending_rises a u) (ascending_rises b v)
    where
      first : (x : ℕ) (xs : List ℕ) → Rising f (x ∷ xs) → (y : ℕ) → y ∈ xs → f x < f y
      first x xs (rising_next u r) = u

      rest : (x : ℕ) (xs : List ℕ) → Rising f (x ∷ xs) → Rising f xs
      rest x xs (rising_next u r) = r

pub ascending_keep : (p : ℕ → Bool) (l : List ℕ) → Ascending l → Ascending (keep p l)
ascending_keep p l u =
    rising_ascends (λ x. x) (keep p l) (rising_keep (λ x. x) (λ x. x) p (λ x y i j h. h) (ascending_rises (λ x. x) l u))

pub ascending_upto : (n : ℕ) → Ascending (upto n)
ascending_upto n = rising_ascends (λ x. x) (upto n) (rising_range n 0)

rising_once : {l : List ℕ} → Rising (λ x. x) l → Once l
rising_once rising_none = once_none
rising_once (rising_next {x = x} u r) = once_next (λ m. let h : x < x = u x m in omega arith) (rising_once r)

pub ascending_once : (l : List ℕ) → Ascending l → Once l
ascending_once l u = rising_once (ascending_rises (λ x. x) l u)

pub ascending_first : (l : List ℕ) → Ascending l → {c : ℕ} → c ∈ l → at l 0 ≤ c
ascending_first [] u m = absurd (in-none m)
ascending_first (x ∷ xs) u {c} m = go (ascending_rises (λ x. x) (x ∷ xs) u) (in-cases m)
  where
    go : Rising (λ x. x) (x ∷ xs) → (c ≡ x) ⊎ (c ∈ xs) → x ≤ c
    go r (inl e) = omega arith
    go (rising_next f r) (inr i) = let h : x < c = f c i in omega arith

-- entries of an ascending list are told apart
pub ascending_place : (l : List ℕ) → Ascending l → (j k : ℕ) → j < length l → k < length l → at l j ≡ at l k → j ≡ k
ascending_place l u j k a b e = go (three j k)
  where
    go : Three j k → j ≡ k
    go (lt h) = absurd (omega (arith, u j k h b))
    go (eq h) = h
    go (gt h) = absurd (omega (arith, u k j h a))
