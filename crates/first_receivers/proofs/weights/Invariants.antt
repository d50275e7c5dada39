-- `first_receivers::weights` meets its contract: before each row all cells of the rows before have their weights, and a weight is the mask of the
-- first receiver alone.
-- Assumes nothing.
use Rattle.std.proofs.Common.{◌≡◌, ◌*◌}
use Rattle.first_receivers.specs.Weights.{weight}
use Rattle.lists.specs.Lists.{filled}
use Rattle.first_receivers.proofs.weights.Given as goal

abbrev pub invariant-loop-row : goal.invariant-loop-row
invariant-loop-row l = l.out ≡ filled (weight l.neighbours l.w l.heights l.marks) (l.row * l.w) l.initial.out
