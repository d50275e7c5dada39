-- What `spread` asks for, and what it promises.
-- Assumes nothing.
use Rattle.std.specs.Prelude.{Bool, true, List, ◌⊎◌, ◌≡◌, ℕ, ◌+◌, ◌<◌, ◌≤◌, eqb, length}
use Rattle.grid.specs.Masks.{Masks}
use Rattle.grid.specs.Neighbours.{places_by}
use Rattle.grid.specs.Window.{around, beside, Grid}
use Rattle.lists.specs.Lists.{at, stored, tab}
use Rattle.spread.specs.Steps.{fewest, none}
use Rattle.grid.specs.declared.Neighbours.{Neighbours}

-- the masks say where steps lead: between cells both ways, and to neighbours only; counts with a margin are 0 at marked cells and none
-- elsewhere; the queue has a place for each cell and one more
pub record Spreadable (N : Neighbours) (w : ℕ) (E : ℕ → ℕ → Bool) (masks counts queue : List ℕ) : Type 0 where
  pub grid : Grid w (length masks)
  pub masks_say : Masks around w (length masks) E masks
  pub both_ways : (a b : ℕ) → a < length masks → b < length masks → E a b ≡ true → E b a ≡ true
  pub near : (a b : ℕ) → a < length masks → b < length masks → E a b ≡ true → beside (places_by N) w a b ≡ true
  pub room : length masks + 130 ≤ length counts
  pub queue_room : length masks < length queue
  pub first : (c : ℕ) → c < length masks → (at counts (c + 65) ≡ 0) ⊎ (at counts (c + 65) ≡ none)

-- cells with count 0 are marked
abbrev pub marked_in : (counts : List ℕ) → ℕ → Bool
marked_in counts c = eqb (at counts (c + 65)) 0

-- what `spread` promises: each cell's count is the fewest steps to a marked one, whatever the masks say of where steps lead; the margin is as
-- it was
abbrev pub SpreadOut : (N : Neighbours) (w : ℕ) (masks counts queue after : List ℕ) → Type 0
SpreadOut N w masks counts queue after =
    (E : ℕ → ℕ → Bool) → Spreadable N w E masks counts queue
    → after ≡ stored 65 (tab (length masks) (fewest (length masks) E (marked_in counts))) counts
