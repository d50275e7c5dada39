-- `trace::walk` meets its contract. The invariant of its loop: the cell is on the list, and the trace from the start is the trace from
-- here with the steps that are left, which are the measure.
-- Assumes nothing.
use mathlib.Core.Path.{◌≡◌}
use Prim.Native.Nat.{◌-◌, ◌<◌, ◌≤◌}
use lib.ListN.{length}
use Rattle.rules.specs.Trace.{trace_from}
use Rattle.trace.proofs.walk.Given as goal

abbrev pub invariant-steps : goal.invariant-steps
invariant-steps l =
    (l.cell < length l.receivers) × (l.steps ≤ l.limit) × (trace_from l.receivers l.limit 0 l.initial.cell ≡ trace_from l.receivers (l.limit - l.steps)
    l.steps l.cell)

abbrev pub decreases-steps : goal.decreases-steps
decreases-steps l = l.limit - l.steps
