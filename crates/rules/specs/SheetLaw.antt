-- W-205 as it is said: the receivers of sheet flow, over the levels of a land, without a computation.
-- Assumes nothing.
use Rattle.std.specs.Prelude.{false, true, List, ◌≡◌, suc, ℕ, ◌<◌, ◌≤◌, length}
use Rattle.lists.specs.Lists.{at, ◌∈◌}
use Rattle.rules.specs.FirstWays.{neighbours, no_cell}
use Rattle.rules.specs.Land.{Land}
use Rattle.rules.specs.Sheet.{ends_count}
use Rattle.spread.specs.Steps.{alike, Fewest}

-- d is the neighbour of lowest level, strictly lower than c, and no neighbour of that level has a lesser number
pub record ToLowest (L : Land) (levels : List ℕ) (c d : ℕ) : Type 0 where
  pub neighbour : d ∈ neighbours L c
  pub lower : at levels d < at levels c
  pub lowest : (e : ℕ) → e ∈ neighbours L c → at levels d ≤ at levels e
  pub first : (e : ℕ) → e ∈ neighbours L c → at levels e ≡ at levels d → d ≤ e

-- k is the fewest number of steps from c, through neighbours of its own level, to an outlet or to a cell with a strictly lower neighbour level
abbrev pub FewestSteps : Land → List ℕ → (c k : ℕ) → Type 0
FewestSteps L levels c k = Fewest L.cells (alike L.beside (at levels)) (ends_count L levels) c k

-- d is a neighbour of c's level whose count is one less, and no such neighbour has a lesser number
pub record ToOneLess (L : Land) (levels : List ℕ) (c d : ℕ) : Type 0 where
  pub neighbour : d ∈ neighbours L c
  pub same_level : at levels d ≡ at levels c
  pub steps : ℕ
  pub counts : FewestSteps L levels d steps
  pub one_more : FewestSteps L levels c (suc steps)
  pub first : (e : ℕ) → e ∈ neighbours L c → at levels e ≡ at levels c → FewestSteps L levels e steps → d ≤ e

-- r lists the receivers of sheet flow: an outlet's entry is its own number, and a hole's is none. Any other cell receives to the lowest of its
-- strictly lower neighbours; where it has none, to a neighbour of its level
pub record SheetFlow (L : Land) (levels r : List ℕ) : Type 0 where
  pub full : length r ≡ L.cells
  pub holes : (c : ℕ) → c < L.cells → L.solid c ≡ false → at r c ≡ no_cell
  pub outlets : (c : ℕ) → c < L.cells → L.solid c ≡ true → L.outlet c ≡ true → at r c ≡ c
  pub falling : (c d : ℕ) → c < L.cells → L.solid c ≡ true → L.outlet c ≡ false
      → d ∈ neighbours L c → at levels d < at levels c → ToLowest L levels c (at r c)
  pub level : (c : ℕ) → c < L.cells → L.solid c ≡ true → L.outlet c ≡ false
      → ((d : ℕ) → d ∈ neighbours L c → at levels c ≤ at levels d) → ToOneLess L levels c (at r c)
