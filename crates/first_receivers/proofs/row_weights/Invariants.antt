-- `first_receivers::row_weights` meets its contract: before column x is stored the cells before it have their weights, those of the rows before and
-- those of this row; the column is known, so the four cells that are compared are the cell's neighbours.
-- Assumes nothing.
use Rattle.std.proofs.Common.{◌≡◌, ℕ, ◌+◌, ◌≤◌, max, List, length}
use Rattle.first_receivers.specs.Weights.{weight}
use Rattle.lists.specs.Lists.{filled}
use Rattle.first_receivers.proofs.row_weights.Given as goal

abbrev pub invariant-loop-x : goal.invariant-loop-x
invariant-loop-x l =
    (l.x + 1 ≤ max l.w 2)
    × ((old : List ℕ) → length l.heights ≤ length old → l.fn.out ≡ filled (weight l.neighbours l.w l.heights l.marks) l.b old
    → l.out ≡ filled (weight l.neighbours l.w l.heights l.marks) (l.b + l.x) old)
