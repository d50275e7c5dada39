-- `groups::find` meets its contract. The loop keeps all roots, and the root of x is that of l. Each turn goes to a lesser x.
-- Assumes nothing.
use mathlib.Core.Path.{◌≡◌}
use Prim.Native.Nat.{◌<◌}
use lib.ListN.{length}
use Rattle.groups.specs.Groups.{root_of, SameGroups}
use Rattle.groups.proofs.find.Given as goal

abbrev pub invariant-loop-x : goal.invariant-loop-x
invariant-loop-x g l =
    (length l.group ≡ length l.initial.group) × (l.x < length l.group) × SameGroups l.initial.group l.group
    × (root_of l.initial.group l.x ≡ root_of l.initial.group (g.L.Numbered.number l.fn.l))

abbrev pub decreases-loop-x : goal.decreases-loop-x
decreases-loop-x g l = l.x
