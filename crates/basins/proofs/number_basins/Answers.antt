-- `basins::number_basins` meets its contract.
-- After c turns the list is filled with c counts, and the next number counts the singular cells below c.
-- Assumes nothing.
use mathlib.Core.Path.{sym}
use Prim.Native.Nat.{◌≤◌}
use native.Mathlib.Omega.{arith}
use lib.Dec.{eqb}
use Rattle.basins.proofs.Numbered.{below_next, below_none, one-or_none}
use Rattle.basins.specs.Jumps.{one_if, singular_below}
use Rattle.lists.proofs.Filled.{filled_next, filled_none}
use Rattle.lists.specs.Lists.{at}
use Rattle.basins.proofs.number_basins.Goals as goal

pub loop-c-init : goal.loop-c-init
loop-c-init c = (omega arith, sym (below_none _), sym (filled_none _ _))

pub loop-c-preserved : goal.loop-c-preserved
loop-c-preserved c =
    let i = c.loop-c.invariant in
    let one : one_if (eqb (at c.args.receivers.now c.loop-c.c) c.loop-c.c) ≤ 1 = one-or_none
    (eqb (at c.args.receivers.now c.loop-c.c) c.loop-c.c) in (
      rw c.next_number-number.ensures (omega (arith, one, i.0)),
      rw (c.next_number-number.ensures, i.1) (sym (below_next c.args.receivers.now c.loop-c.c)),
      rw (i.1, i.2)
          (filled_next (singular_below c.args.receivers.now) c.loop-c.c c.args.numbers.now (omega (arith, c.loop-c-test.true, c.requires.1))),
    )
