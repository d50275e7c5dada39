-- `text::outlet_drainage` meets its contract: after each turn the total is that of one cell more, and no more than all can have.
-- Assumes nothing.
use mathlib.Core.Path.{◌≡◌}
use Prim.Native.Nat.{◌*◌, ◌-◌, ◌≤◌}
use Rattle.text.specs.Text.{outlet_drainage}
use Rattle.text.proofs.outlet_drainage.Given as goal

abbrev pub invariant-loop-c : goal.invariant-loop-c
invariant-loop-c l = (l.c ≤ l.n) × (l.total ≡ outlet_drainage l.drainage l.marks l.c) × (l.total ≤ 4294967295 * l.c)

abbrev pub decreases-loop-c : goal.decreases-loop-c
decreases-loop-c l = l.n - l.c
