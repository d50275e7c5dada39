-- `lake_notes::wet_cells` meets its contract: after c cells the wet ones among them stand at the start.
-- Assumes nothing.
use mathlib.Core.Path.{◌≡◌}
use Prim.Native.Nat.{◌-◌, ◌≤◌}
use lib.ListN.{length}
use Rattle.lake_notes.proofs.WetCells.{Kept}
use Rattle.lake_notes.proofs.listing.wet_cells.Given as goal

abbrev pub invariant-loop-c : goal.invariant-loop-c
invariant-loop-c l = (l.c-end ≡ length l.heights) × (l.c ≤ length l.heights) × Kept l.heights l.levels l.initial.cells l.cells l.k l.c

abbrev pub decreases-loop-c : goal.decreases-loop-c
decreases-loop-c l = length l.heights - l.c
