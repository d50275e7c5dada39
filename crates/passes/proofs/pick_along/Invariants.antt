-- `passes::pick_along` meets its contract: after i pairs the picked ones stand at the front, and the groups follow all i.
-- Assumes nothing.
use mathlib.Core.Path.{◌≡◌}
use Prim.Native.Nat.{◌-◌, ◌≤◌}
use lib.ListN.{length}
use Rattle.pairs.specs.Pairs.{crossing_of}
use Rattle.passes.proofs.PickTurns.{Picking}
use Rattle.passes.proofs.pick_along.Given as goal

abbrev pub invariant-loop-i : goal.invariant-loop-i
invariant-loop-i l =
    (l.i-end ≡ length l.initial.list) × (l.i ≤ length l.initial.list) × Picking (crossing_of l.w) l.labels l.initial.list l.m l.i l.group l.list

abbrev pub decreases-loop-i : goal.decreases-loop-i
decreases-loop-i l = length l.initial.list - l.i
