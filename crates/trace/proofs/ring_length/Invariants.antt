-- `trace::ring_length` meets its contract. The invariant of its loop: the cell is as many moves from home as were made, and none before
-- it was home. The measure is what is left of the list's length, so there are no more moves than entries.
-- Assumes nothing.
use mathlib.Core.Path.{◌≡◌}
use Prim.Native.Nat.{suc, ◌-◌, ◌<◌}
use lib.ListN.{length}
use Rattle.lists.specs.Find.{NoneBelow}
use Rattle.lists.specs.Lists.{at, repeat}
use Rattle.trace.specs.Ring.{back_after}
use Rattle.trace.proofs.ring_length.Given as goal

abbrev pub invariant-loop-cell : goal.invariant-loop-cell
invariant-loop-cell l =
    (l.cell ≡ repeat (suc l.more) (at l.receivers) l.home.0) × NoneBelow (back_after l.receivers l.home.0) l.more × (l.more < length l.receivers)

abbrev pub decreases-loop-cell : goal.decreases-loop-cell
decreases-loop-cell l = length l.receivers - l.more
