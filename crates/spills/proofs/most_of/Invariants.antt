-- `spills::most_of` meets its contract: after each turn it is the greatest of the labels so far.
-- Assumes nothing.
use mathlib.Core.Path.{◌≡◌}
use Prim.Native.Nat.{◌≤◌}
use lib.ListN.{length}
use Rattle.lists.specs.Greatest.{greatest}
use Rattle.lists.specs.Lists.{at, tab}
use Rattle.spills.proofs.most_of.Given as goal

abbrev pub invariant-loop-label : goal.invariant-loop-label
invariant-loop-label l = (l.label-index-end ≡ length l.labels) × (l.label-index ≤ length l.labels) × (l.found ≡ greatest (tab l.label-index (at l.labels)))
