-- `basins::jump` meets its contract.
-- After c turns the list is what c jumps make of it, and the answer says whether one of them moved an entry.
-- Assumes nothing.
use mathlib.Core.Path.{◌≡◌}
use Rattle.basins.specs.Jumps.{any_moved, jumped}
use Rattle.basins.proofs.jump.Given as goal

abbrev pub invariant-loop-c : goal.invariant-loop-c
invariant-loop-c l =
    (l.entries ≡ jumped l.c l.initial.entries) × (l.moved ≡ any_moved l.c l.initial.entries)
