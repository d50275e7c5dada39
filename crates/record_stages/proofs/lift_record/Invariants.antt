-- `record_stages::lift_record` meets its contract: after k turns the first k entries are the lifted heights.
-- Assumes nothing.
use mathlib.Core.Path.{◌≡◌}
use Prim.Native.Nat.{◌-◌, ◌≤◌}
use lib.ListN.{length}
use Rattle.lists.specs.Lists.{filled}
use Rattle.record_stages.specs.Lifted.{lifted_at}
use Rattle.record_stages.proofs.lift_record.Given as goal

abbrev pub invariant-loop-k : goal.invariant-loop-k
invariant-loop-k l = (l.k ≤ l.n) × (length l.out ≡ length l.initial.out) × (l.out ≡ filled (lifted_at l.bytes) l.k l.initial.out)

abbrev pub decreases-loop-k : goal.decreases-loop-k
decreases-loop-k l = l.n - l.k
