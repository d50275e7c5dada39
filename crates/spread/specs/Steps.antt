-- The fewest steps to a marked cell, over any relation that says where a step may lead (document 02, W-205).
-- Assumes nothing.
use Rattle.std.specs.Prelude.{Bool, cond, true, ◌&&◌, ◌||◌, List, ◌≡◌, suc, zero, ℕ, ◌<◌, ◌≤◌, eqb, ltb}
use Rattle.lists.specs.Find.{find}
use Rattle.lists.specs.Lists.{any, at, tab, upto}

-- a way of k steps from cell c to a marked cell, over n cells; E c d says that a step leads from c to d
pub data Steps (n : ℕ) (E : ℕ → ℕ → Bool) (marked : ℕ → Bool) : ℕ → ℕ → Type 0 where
  arrived : {c : ℕ} → c < n → marked c ≡ true → Steps n E marked c zero
  onward : {c d k : ℕ} → c < n → E c d ≡ true → Steps n E marked d k → Steps n E marked c (suc k)

-- k is the fewest number of steps of any way from c
pub record Fewest (n : ℕ) (E : ℕ → ℕ → Bool) (marked : ℕ → Bool) (c k : ℕ) : Type 0 where
  pub way : Steps n E marked c k
  pub least : (j : ℕ) → Steps n E marked c j → k ≤ j

-- the same, computed: 1 for each cell with a way of at most k steps, 0 for any other
unfoldable pub within : (n : ℕ) → (ℕ → ℕ → Bool) → (ℕ → Bool) → ℕ → List ℕ
within n E marked zero = tab n (λ c. cond (marked c) 1 0)
within n E marked (suc k) =
    let before = within n E marked k in
    tab n (λ c. cond (eqb (at before c) 1 || any (λ d. E c d && eqb (at before d) 1) (upto n)) 1 0)

-- what stands for the count of a cell that no way leads from
abbrev pub none : ℕ
none = 65535

abbrev pub or_none : ℕ → ℕ → ℕ
or_none n k = cond (ltb k n) k none

-- the least number k below n with a way of at most k steps from c, or none: a way of fewest steps meets no cell twice
-- (`fewest_any` in proofs/Fewest.antt)
unfoldable pub fewest : (n : ℕ) → (ℕ → ℕ → Bool) → (ℕ → Bool) → ℕ → ℕ
fewest n E marked c = or_none n (find (λ k. eqb (at (within n E marked k) c) 1) n)

-- a step leads to a neighbour with the same label
abbrev pub alike : (beside : ℕ → ℕ → Bool) (label : ℕ → ℕ) → ℕ → ℕ → Bool
alike beside label c d = beside c d && eqb (label d) (label c)
