-- The digits of a number: one more than those of its tenth, and how many there are.
-- Assumes nothing.
use mathlib.Core.List.{[], ◌++◌, ◌∷◌}
use mathlib.Core.Logic.{inl, inr, ◌⊎◌}
use mathlib.Core.Path.{ap, ◌∙◌, ◌≡◌}
use Prim.Native.Nat.{suc, zero, ℕ, ◌%◌, ◌+◌, ◌/◌, ◌<◌, ◌^◌, ◌≤◌}
use native.Mathlib.Nat.{pow-suc}
use native.Mathlib.Omega.{arith}
use lib.ListN.{length, length-append}
use borrow.Author.Tests.{le-ltb, lt-ltb}
use Rattle.lists.proofs.Tests.{lt_or_ge}
use Rattle.text.specs.Text.{decimal, decimal_within}

-- steps to spare change nothing
decimal_within_enough : (j k n : ℕ) → n < j → n < k → decimal_within j n ≡ decimal_within k n
unfolding decimal_within
decimal_within_enough zero k n h l = absurd (omega arith)
decimal_within_enough (suc j) zero n h l = absurd (omega arith)
decimal_within_enough (suc j) (suc k) n h l = go (lt_or_ge n 10) (decimal_within_enough j k (n / 10))
  where
    go : (n < 10) ⊎ (10 ≤ n) → (n / 10 < j → n / 10 < k → decimal_within j (n / 10) ≡ decimal_within k (n / 10))
        → decimal_within (suc j) n ≡ decimal_within (suc k) n
    go (inl m) ih = rw (lt-ltb n 10 m)
    go (inr m) ih = rw (le-ltb n 10 m, ih (omega arith) (omega arith))

pub decimal_small : (n : ℕ) → n < 10 → decimal n ≡ (48 + n) ∷ []
unfolding decimal decimal_within
decimal_small n h = rw (lt-ltb n 10 h)

pub decimal_more : (n : ℕ) → 10 ≤ n → decimal n ≡ decimal (n / 10) ++ ((48 + n % 10) ∷ [])
unfolding decimal decimal_within
decimal_more n h = rw (le-ltb n 10 h, decimal_within_enough n (suc (n / 10)) (n / 10) (omega arith) (omega arith))

pub length_small : (n : ℕ) → n < 10 → length (decimal n) ≡ 1
length_small n h = ap length (decimal_small n h)

pub length_more : (n : ℕ) → 10 ≤ n → length (decimal n) ≡ length (decimal (n / 10)) + 1
length_more n h = ap length (decimal_more n h) ∙ length-append (decimal (n / 10)) ((48 + n % 10) ∷ [])

-- no more digits than the power of ten above it
pub length-decimal : (k n : ℕ) → n < 10 ^ suc k → length (decimal n) ≤ suc k
length-decimal zero n h = rw (decimal_small n (omega arith)) (omega arith)
length-decimal (suc k) n h = go (lt_or_ge n 10) (length-decimal k (n / 10) (omega (arith, rw pow-suc at h)))
  where
    go : (n < 10) ⊎ (10 ≤ n) → length (decimal (n / 10)) ≤ suc k → length (decimal n) ≤ suc (suc k)
    go (inl m) ih = rw (decimal_small n m) (omega arith)
    go (inr m) ih = rw (decimal_more n m, length-append) (omega arith)
