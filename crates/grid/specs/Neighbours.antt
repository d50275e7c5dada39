-- The neighbours that a caller may ask for (document 02, W-203), and which of two ways down is steeper.
-- Assumes nothing.
use Rattle.std.specs.Prelude.{Bool, cond, Err, List, Ok, Result, ◌≡◌, ℕ, ◌%◌, ◌*◌, eqb, ltb}
use Rattle.grid.specs.Window.{around, sides}
use Rattle.grid.specs.declared.Neighbours.{Neighbours}
use Rattle.grid.specs.declared.Neighbours.TheVariants.{Eight, Four}
use Rattle.grid.specs.declared.UnknownCount.{UnknownCount}

-- their places: document 01's sides, or the corners too
abbrev pub places_by : Neighbours → List ℕ
places_by Four = sides
places_by Eight = around

-- the number that asks for them
abbrev pub count_by : Neighbours → ℕ
count_by Four = 4
count_by Eight = 8

-- what a count asks for: 4 and 8 for these neighbours, and no other count for any
abbrev pub neighbours_for : ℕ → Result Neighbours UnknownCount
neighbours_for n = cond (eqb n 4) (Ok Four) (cond (eqb n 8) (Ok Eight) (Err (record { 0 = n })))

abbrev pub NeighboursFor : ℕ → Result Neighbours UnknownCount → Type 0
NeighboursFor n r = r ≡ neighbours_for n

-- the corners are the even places of a window: a drop to one is diagonal, and any other straight
abbrev pub is_corner : ℕ → Bool
is_corner p = eqb (p % 2) 0

-- how steep a drop to place p is. The diagonal is longer by the root of 2, so the square of a straight drop counts twice: a diagonal drop b
-- is steeper than a straight drop a when b times b is greater than twice a times a
unfoldable pub steepness : (p drop : ℕ) → ℕ
steepness p drop = cond (is_corner p) (drop * drop) (2 * (drop * drop))

-- a drop of a to place p is steeper than one of b to place q
abbrev pub steeper : (p a q b : ℕ) → Bool
steeper p a q b = ltb (steepness q b) (steepness p a)
