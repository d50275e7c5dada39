-- `alike::neighbour_masks` meets its contract: before a row all cells before it have their masks.
-- Assumes nothing.
use mathlib.Core.Path.{◌≡◌}
use Prim.Native.Nat.{◌*◌}
use Rattle.alike.specs.NeighbourMasks.{neighbour_mask}
use Rattle.lists.specs.Lists.{filled}
use Rattle.alike.proofs.neighbour_masks.Given as goal

abbrev pub invariant-loop-row : goal.invariant-loop-row
invariant-loop-row l = l.out ≡ filled (neighbour_mask l.neighbours l.w l.n) (l.row * l.w) l.initial.out
