-- Lists of numbers in ascending order: told by places, and by the list's build.
-- Assumes nothing.
use Rattle.std.specs.Prelude.{[], List, ◌∷◌, suc, ℕ, ◌<◌, ◌≤◌, length}
use Rattle.lists.specs.Lists.{at, ◌∈◌}

-- strictly ascending by the number that f gives of each entry
abbrev pub AscendingBy : (ℕ → ℕ) → List ℕ → Type 0
AscendingBy f l = (i j : ℕ) → i < j → j < length l → f (at l i) < f (at l j)

-- strictly ascending
abbrev pub Ascending : List ℕ → Type 0
Ascending l = AscendingBy (λ x. x) l

-- the same order, told by the list's build: each entry is less than all that follow
pub data Rising (f : ℕ → ℕ) : List ℕ → Type 0 where
  rising_none : Rising f []
  rising_next : {x : ℕ} {xs : List ℕ} → ((y : ℕ) → y ∈ xs → f x < f y) → Rising f xs → Rising f (x ∷ xs)

-- strictly ascending, and none below k
pub data Sorted : ℕ → List ℕ → Type 0 where
  sorted_none : {k : ℕ} → Sorted k []
  sorted_next : {k x : ℕ} {xs : List ℕ} → k ≤ x → Sorted (suc x) xs → Sorted k (x ∷ xs)
