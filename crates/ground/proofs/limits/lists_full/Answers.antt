-- `ground::limits::lists_full` meets its contract: the three tests of the code are the definition's.
-- Assumes nothing.
use borrow.Author.Tests.{eq-eqb, ne_eqb}
use Rattle.ground.proofs.limits.lists_full.Goals as goal

pub returns-then-marks-n : goal.returns-then-marks-n
returns-then-marks-n c = rw (eq-eqb _ _ c.if-heights-n.true, eq-eqb _ _ c.if-marks-n.true)

pub returns-else-marks-n : goal.returns-else-marks-n
returns-else-marks-n c = rw (eq-eqb _ _ c.if-heights-n.true, ne_eqb _ _ c.if-marks-n.false)

pub returns-else-heights-n : goal.returns-else-heights-n
returns-else-heights-n c = rw (ne_eqb _ _ c.if-heights-n.false)
