-- `trace::trace` meets its contract: the tests on the way are the definition's.
-- Assumes nothing.
use native.Mathlib.Omega.{arith}
use lib.ListN.{length}
use borrow.Author.Tests.{le-leb, le-ltb, lt-leb, lt-ltb}
use Rattle.rules.specs.Trace.{trace as Rules·trace}
use Rattle.trace.proofs.trace.Goals as goal

pub returns-then-n-eq0 : goal.returns-then-n-eq0
unfolding Rules·trace
returns-then-n-eq0 c = let n = length c.args.receivers.now in rw (lt-leb 1 n (omega arith))

pub returns-then-n-gt4096 : goal.returns-then-n-gt4096
unfolding Rules·trace
returns-then-n-gt4096 c = let n = length c.args.receivers.now in rw (le-leb 1 n (omega arith), lt-leb n 4096 c.if-n-gt4096.true)

pub returns-then-n-cell : goal.returns-then-n-cell
unfolding Rules·trace
returns-then-n-cell c =
    let a = c.args in
    let n = length a.receivers.now in
    rw (le-leb 1 n (omega arith), le-leb n 4096 c.if-n-gt4096.false, le-ltb a.cell n c.if-n-cell.true)

pub returns-then-budget-n : goal.returns-then-budget-n
unfolding Rules·trace
returns-then-budget-n c =
    let a = c.args in
    let n = length a.receivers.now in
    rw (le-leb 1 n (omega arith), le-leb n 4096 (omega arith), lt-ltb a.cell n (omega arith)) c.walk.ensures

pub returns-else-budget-n : goal.returns-else-budget-n
unfolding Rules·trace
returns-else-budget-n c =
    let a = c.args in
    let n = length a.receivers.now in
    rw (le-leb 1 n (omega arith), le-leb n 4096 (omega arith), lt-ltb a.cell n (omega arith)) c.walk_on.ensures
