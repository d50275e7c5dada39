-- `spills::raise` meets its contract: after c turns the first c heights are raised, and the rest is as it was.
-- Assumes nothing.
use mathlib.Core.List.{List}
use mathlib.Core.Path.{◌≡◌}
use Prim.Native.Nat.{max, ℕ, ◌-◌, ◌≤◌}
use lib.ListN.{length}
use Rattle.lists.specs.Lists.{at, filled}
use Rattle.spills.proofs.raise.Given as goal

-- a cell's height raised to its label's spill
abbrev pub level : (labels spills heights : List ℕ) → ℕ → ℕ
level labels spills heights c = max (at heights c) (at spills (at labels c))

abbrev pub invariant-loop-c : goal.invariant-loop-c
invariant-loop-c l =
    (l.c ≤ length l.initial.heights) × (length l.heights ≡ length l.initial.heights)
    × (l.heights ≡ filled (level l.labels l.spills l.initial.heights) l.c l.initial.heights)

abbrev pub decreases-loop-c : goal.decreases-loop-c
decreases-loop-c l = length l.initial.heights - l.c
