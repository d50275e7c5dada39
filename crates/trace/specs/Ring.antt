-- Rings: cells from which the receivers lead back to where they started.
-- Assumes nothing.
use Rattle.std.specs.Prelude.{Bool, List, suc, ℕ, ◌<◌, ◌≤◌, eqb, length}
use Rattle.lists.specs.Find.{find}
use Rattle.lists.specs.Lists.{at, repeat}

-- the receivers lead from c to cells of the list only, however far they are followed
abbrev pub Stays : List ℕ → ℕ → Type 0
Stays r c = (j : ℕ) → repeat j (at r) c < length r

-- k moves after the first one, the receivers have led back to c
abbrev pub back_after : List ℕ → ℕ → ℕ → Bool
back_after r c k = eqb (repeat (suc k) (at r) c) c

-- the least number of moves after which the receivers have led back to c
abbrev pub ring_length : List ℕ → ℕ → ℕ
ring_length r c = suc (find (back_after r c) (length r))

-- c is on a ring of a list of document 01's length
pub record OnRing (r : List ℕ) (c : ℕ) : Type 0 where
  pub stays : Stays r c
  pub short : ring_length r c ≤ length r
  pub few : length r ≤ 4096
