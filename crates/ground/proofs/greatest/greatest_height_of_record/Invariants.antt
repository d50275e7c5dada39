-- `ground::greatest::greatest_height_of_record` meets its contract: after `cell` turns `high` is the greatest of the first `cell`
-- heights, lifted.
-- Assumes nothing.
use mathlib.Core.Path.{◌≡◌}
use Prim.Native.Nat.{◌-◌, ◌≤◌}
use Rattle.ground.specs.Record.{lifts_in}
use Rattle.lists.specs.Greatest.{greatest}
use Rattle.ground.proofs.greatest.greatest_height_of_record.Given as goal

abbrev pub invariant-loop-cell : goal.invariant-loop-cell
invariant-loop-cell l = (l.cell ≤ l.n) × (l.high ≡ greatest (lifts_in l.bytes l.cell))

abbrev pub decreases-loop-cell : goal.decreases-loop-cell
decreases-loop-cell l = l.n - l.cell
