-- `spread::flood` meets its contract. Between turns the cells before the queue's head were taken out (Breadth); a turn visits the next one
-- (Floods), and in the end each count is the fewest (Ends).
-- Assumes nothing.
use mathlib.Core.Path.{◌≡◌}
use Prim.Native.Nat.{◌-◌}
use lib.ListN.{length}
use Rattle.spread.proofs.Floods.{Between}
use Rattle.spread.proofs.flood.Given as goal

abbrev pub invariant-loop-head : goal.invariant-loop-head
invariant-loop-head l =
    (length l.counts ≡ length l.initial.counts) × (length l.queue ≡ length l.initial.queue)
    × Between l.neighbours l.w l.masks l.initial.counts l.initial.queue l.counts l.queue l.head.0 l.tail.0

abbrev pub decreases-loop-head : goal.decreases-loop-head
decreases-loop-head l = length l.masks - l.head.0
