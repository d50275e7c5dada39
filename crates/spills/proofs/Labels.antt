-- The greatest label: no entry of a list is above its greatest, and the greatest is at most what each entry is at most.
-- Assumes nothing.
use mathlib.Core.List.{[], List, ◌∷◌}
use Prim.Native.Nat.{suc, zero, ℕ, ◌<◌, ◌≤◌}
use native.Mathlib.Omega.{arith}
use lib.ListN.{length}
use Rattle.lists.specs.Greatest.{greatest}
use Rattle.lists.specs.Lists.{at}

-- at any place, past the end too, where 0 stands
pub greatest-at : (l : List ℕ) (k : ℕ) → at l k ≤ greatest l
greatest-at [] k = omega arith
greatest-at (x ∷ xs) zero = omega arith
greatest-at (x ∷ xs) (suc k) = let h = greatest-at xs k in omega arith

pub greatest_bounded : (l : List ℕ) (b : ℕ) → ((k : ℕ) → k < length l → at l k ≤ b) → greatest l ≤ b
greatest_bounded [] b h = omega arith
greatest_bounded (x ∷ xs) b h =
    let first : x ≤ b = h zero (omega arith) in
    let rest : greatest xs ≤ b = greatest_bounded xs b (λ k m. h (suc k) (omega arith)) in
    omega arith
