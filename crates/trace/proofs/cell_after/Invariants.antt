-- `trace::cell_after` meets its contract: after each turn the cell is one move further.
-- Assumes nothing.
use mathlib.Core.Path.{◌≡◌}
use Prim.Native.Nat.{◌-◌, ◌≤◌}
use Rattle.lists.specs.Lists.{at, repeat}
use Rattle.trace.proofs.cell_after.Given as goal

abbrev pub invariant-loop : goal.invariant-loop
invariant-loop l = (l.counter ≤ l.moves) × (l.cell ≡ repeat l.counter (at l.receivers) l.initial.cell)

abbrev pub decreases-loop : goal.decreases-loop
decreases-loop l = l.moves - l.counter
