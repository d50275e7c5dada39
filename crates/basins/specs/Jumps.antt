-- Rule 2 as the code works it out: entries that jump along the first ways, and singular cells counted.
-- Assumes nothing.
use Rattle.std.specs.Prelude.{Bool, cond, false, true, List, ◌≡◌, suc, zero, ℕ, ◌<◌, ◌≤◌, eqb, length, set}
use Rattle.lists.specs.Lists.{at, keep, upto}
use Rattle.rules.specs.FirstWays.{first_receiver}
use Rattle.rules.specs.Land.{Land}

-- the first n entries are the first receivers of a land of n cells without holes
pub record FirstReceivers (L : Land) (n : ℕ) (entries : List ℕ) : Type 0 where
  pub cells : L.cells ≡ n
  pub few : n ≤ 4096
  pub room : n ≤ length entries
  pub firsts : (c : ℕ) → c < n → at entries c ≡ first_receiver L c
  pub whole : (c : ℕ) → c < n → L.solid c ≡ true

-- each of the first n entries is below n
abbrev pub Within : ℕ → List ℕ → Type 0
Within n entries = (c : ℕ) → c < n → at entries c < n

-- after each of the first i cells' entries, in turn, has jumped to its entry's entry
unfoldable pub jumped : ℕ → List ℕ → List ℕ
jumped zero entries = entries
jumped (suc i) entries = let p = jumped i entries in set p i (at p (at p i))

-- something moved before, or an entry moves from one cell to another now
abbrev pub moved_on : Bool → ℕ → ℕ → Bool
moved_on before from to = cond (eqb from to) before true

-- some entry of the first i moved
unfoldable pub any_moved : ℕ → List ℕ → Bool
any_moved zero entries = false
any_moved (suc i) entries = let p = jumped i entries in moved_on (any_moved i entries) (at p i) (at p (at p i))

abbrev pub one_if : Bool → ℕ
one_if b = cond b 1 0

-- how many cells below c are singular: their own receivers
unfoldable pub singular_below : List ℕ → ℕ → ℕ
singular_below receivers c = length (keep (λ d. eqb (at receivers d) d) (upto c))
