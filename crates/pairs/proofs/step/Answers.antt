-- `pairs::step` meets its contract. The two arms of the test: one on, or a row on, and from there one back, none or one on.
-- Assumes nothing.
use mathlib.Core.Path.{sym, ◌∙◌}
use Prim.Native.Nat.{◌%◌}
use native.Mathlib.Omega.{arith}
use Rattle.pairs.proofs.Pairs.{step_down, step_on}
use Rattle.pairs.proofs.step.Goals as goal

pub returns-then-side-eq0 : goal.returns-then-side-eq0
returns-then-side-eq0 c = rw (sym c.from-side.ensures ∙ c.if-side-eq0.true) (step_on c.args.w)

pub returns-else-side-eq0 : goal.returns-else-side-eq0
returns-else-side-eq0 c =
    rw c.from-side.ensures
    (step_down c.args.w (c.args.p % 4) c.requires.0 (omega (arith, c.from-side.ensures, c.if-side-eq0.false)) (omega arith))
