-- `ground::greatest::greatest_mark` meets its contract: after some turns `most` is the greatest of the marks that were taken.
-- Assumes nothing.
use mathlib.Core.Path.{◌≡◌}
use Prim.Native.Nat.{◌≤◌}
use lib.ListN.{length}
use Rattle.lists.specs.Greatest.{greatest}
use Rattle.lists.specs.Lists.{at, tab}
use Rattle.ground.proofs.greatest.greatest_mark.Given as goal

abbrev pub invariant-loop-mark : goal.invariant-loop-mark
invariant-loop-mark l = (l.mark-index ≤ length l.marks) × (l.most ≡ greatest (tab l.mark-index (at l.marks)))
