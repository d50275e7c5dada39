-- Level steps by counts and masks (W-205). Counts stand in a list with a margin of 65 entries on both sides, so that every cell has an entry for
-- each place of its window: cell c's own stands at c + 65.
-- Assumes nothing.
use Rattle.std.specs.Prelude.{ℕ, ◌+◌, ◌%◌, Bool, cond, not, ◌&&◌, ◌||◌, List, [], ◌∷◌, ◌==◌}
use Rattle.grid.specs.Masks.{bit_of}
use Rattle.grid.specs.Neighbours.{places_by}
use Rattle.grid.specs.Window.{around}
use Rattle.lists.specs.Lists.{at}
use Rattle.lowest.specs.Lowest.{entry_at, has_bit}
use Rattle.rules.specs.Ground.{is_outlet}
use Rattle.spread.specs.Steps.{none}
use Rattle.grid.specs.declared.Neighbours.{Neighbours}

-- a cell's count at first: 0 where counts end, which is at an outlet and where a weight leads on to a lower neighbour
abbrev pub first_count : (weights marks : List ℕ) → ℕ → ℕ
first_count weights marks c = cond (is_outlet marks c || not (at weights c == 0)) 0 none

-- one less than a count. One less than 0 is none, and no cell asks for it
abbrev pub one_less : ℕ → ℕ
one_less count = (count + 65535) % 65536

-- a level step from c may lead to place p: the mask has it, and the count there is one less than c's
abbrev pub steps_to : (w : ℕ) (counts : List ℕ) (c mask p : ℕ) → Bool
steps_to w counts c mask p = has_bit mask (bit_of around p) && at counts (entry_at w (c + 65) p) == one_less (at counts (c + 65))

-- the bit of the first place that passes, 0 where none does
abbrev pub first_bit : (ℕ → Bool) → List ℕ → ℕ
first_bit passes [] = 0
first_bit passes (p ∷ ps) = cond (passes p) (bit_of around p) (first_bit passes ps)

-- the weight of a level step from c with this mask
unfoldable pub step_weight : (N : Neighbours) (w : ℕ) (counts : List ℕ) (c mask : ℕ) → ℕ
step_weight N w counts c mask = first_bit (steps_to w counts c mask) (places_by N)

-- a cell whose count isn't 0 leads on by a level step, and any other keeps its weight
abbrev pub lead_weight : (N : Neighbours) (w : ℕ) (likes counts weights : List ℕ) (c : ℕ) → ℕ
lead_weight N w likes counts weights c =
    cond (at counts (c + 65) == 0) (at weights c) (step_weight N w counts c (at likes c))
