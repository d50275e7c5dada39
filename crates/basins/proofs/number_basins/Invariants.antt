-- `basins::number_basins` meets its contract.
-- After c turns the list is filled with c counts, and the next number counts the singular cells below c.
-- Assumes nothing.
use mathlib.Core.Path.{◌≡◌}
use Prim.Native.Nat.{◌≤◌}
use Rattle.basins.specs.Jumps.{singular_below}
use Rattle.lists.specs.Lists.{filled}
use Rattle.basins.proofs.number_basins.Given as goal

abbrev pub invariant-loop-c : goal.invariant-loop-c
invariant-loop-c l =
    (l.number.0 ≤ l.c) × (l.number.0 ≡ singular_below l.receivers l.c) × (l.numbers ≡ filled (singular_below l.receivers) l.c l.initial.numbers)
