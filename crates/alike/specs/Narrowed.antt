-- Masks narrowed by a test of what stands at each place, as read from a list with a margin. Such a list has 65 entries before those of the
-- cells and 65 after: cell c's entry stands at c + 65, and there is one for each place of its window, whether the tile has a cell there or not.
-- Assumes nothing.
use Rattle.std.specs.Prelude.{Bool, cond, [], List, ◌∷◌, ℕ, ◌%◌, ◌*◌, ◌+◌, ◌-◌, ◌/◌, ◌<◌, ◌≤◌, eqb, length}
use Rattle.grid.specs.Masks.{bit_of}
use Rattle.grid.specs.Window.{around, corners, sides}
use Rattle.lists.specs.Lists.{at}
use Rattle.grid.specs.declared.Neighbours.{Neighbours}
use Rattle.grid.specs.declared.Neighbours.TheVariants.{Eight, Four}

-- the entry for place p of c's window, in a list with a margin
abbrev pub beyond : (w : ℕ) (l : List ℕ) (c p : ℕ) → ℕ
beyond w l c p = at l (c + 64 + p / 3 * w + p % 3 - w)

-- the bit of place p, or 0 where the mask has it not
abbrev pub bit_in : (places : List ℕ) (mask p : ℕ) → ℕ
bit_in places mask p = mask / bit_of places p % 2 * bit_of places p

-- of the mask's bits of these places those that pass the test
abbrev pub narrowed : (places : List ℕ) (mask : ℕ) → (ℕ → Bool) → List ℕ → ℕ
narrowed places mask test [] = 0
narrowed places mask test (p ∷ ps) = cond (test p) (bit_in places mask p) 0 + narrowed places mask test ps

-- of four neighbours only the sides are tried: the mask has no corner
unfoldable pub narrowed_by : Neighbours → (mask : ℕ) → (ℕ → Bool) → ℕ
narrowed_by Four mask test = narrowed around mask test sides
narrowed_by Eight mask test = narrowed around mask test sides + narrowed around mask test corners

-- the entry for place p is that of c
abbrev pub like_at : (w : ℕ) (labels : List ℕ) (c p : ℕ) → Bool
like_at w labels c p = eqb (beyond w labels c p) (at labels (c + 65))

-- cell c's window can be read from a list with a margin
pub record InMargin (w : ℕ) (l : List ℕ) (c : ℕ) : Type 0 where
  pub narrow : w ≤ 64
  pub few : c < 4096
  pub room : c + 130 < length l
