-- `lake_notes::wet_pairs` meets its contract: after c cells their pairs stand at the start.
-- Assumes nothing.
use mathlib.Core.Path.{◌≡◌}
use Prim.Native.Nat.{◌-◌, ◌≤◌}
use lib.ListN.{length}
use Rattle.lake_notes.proofs.PairTurns.{Listing}
use Rattle.lake_notes.proofs.listing.wet_pairs.Given as goal

abbrev pub invariant-loop-c : goal.invariant-loop-c
invariant-loop-c l = (l.c-end ≡ length l.heights) × (l.c ≤ length l.heights) × Listing l.w l.heights l.levels l.initial.list l.list l.k l.left l.c

abbrev pub decreases-loop-c : goal.decreases-loop-c
decreases-loop-c l = length l.heights - l.c
