-- `spills::spill_all` meets its contract: after b turns spills stand below b, and notes from b on.
-- Assumes nothing.
use Prim.Native.Nat.{◌-◌, ◌≤◌}
use Rattle.spills.proofs.InPlace.{InPlace}
use Rattle.spills.proofs.spill_all.Given as goal

abbrev pub invariant-loop-b : goal.invariant-loop-b
invariant-loop-b l = (l.b ≤ l.top) × InPlace l.w l.heights l.initial.notes l.b l.notes

abbrev pub decreases-loop-b : goal.decreases-loop-b
decreases-loop-b l = l.top - l.b
