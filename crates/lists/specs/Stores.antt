-- What a loop leaves that stores at one place after the other.
-- Assumes nothing.
use Rattle.std.specs.Prelude.{List, ◌⊎◌, ◌≡◌, ℕ, ◌<◌, ◌≤◌, length, take}
use Rattle.lists.specs.Lists.{at, ◌∈◌}

-- the entries from a to b are f's, and every other is as it was
pub record Puts (f : ℕ → ℕ) (a b : ℕ) (old new : List ℕ) : Type 0 where
  pub long : length new ≡ length old
  pub inside : (k : ℕ) → a ≤ k → k < b → at new k ≡ f k
  pub outside : (k : ℕ) → (k < a) ⊎ (b ≤ k) → at new k ≡ at old k

-- the entries of `packed` stand at the start of a list, and r is their number; what is past them is not told
pub record Packs (packed list : List ℕ) (r : ℕ) : Type 0 where
  pub count : r ≡ length packed
  pub first : take r list ≡ packed

-- l has f's numbers at the places, and old's elsewhere
pub record Noted (f : ℕ → ℕ) (places old l : List ℕ) : Type 0 where
  pub size : length l ≡ length old
  pub there : (x : ℕ) → x ∈ places → at l x ≡ f x
  pub elsewhere : (x : ℕ) → (x ∈ places → ⊥) → at l x ≡ at old x
