-- `basins::singular_cells` meets its contract.
-- Before each round every entry leads so many steps along the first way, or further. As many steps as cells lead to the singular cell;
-- and where a round moves nothing each entry leads to one that stays, which is singular. The count of steps doubles.
-- Assumes nothing.
use Prim.Native.Nat.{◌-◌}
use Rattle.basins.proofs.Settled.{Leading}
use Rattle.basins.proofs.singular_cells.Given as goal

abbrev pub invariant-loop-steps : goal.invariant-loop-steps
invariant-loop-steps l = Leading l.n l.initial.entries l.entries l.steps

abbrev pub decreases-loop-steps : goal.decreases-loop-steps
decreases-loop-steps l = l.n - l.steps
