-- `sheet::first_of` meets its contract. The arms of the tests.
-- Assumes nothing.
use Rattle.std.proofs.Common.{eq-eqb, ne_eqb}
use Rattle.sheet.proofs.first_of.Goals as goal

pub returns-then-count-asked : goal.returns-then-count-asked
returns-then-count-asked c = rw (eq-eqb _ _ c.if-has-eq1.true, eq-eqb _ _ c.if-count-asked.true)

pub returns-else-count-asked : goal.returns-else-count-asked
returns-else-count-asked c = rw (eq-eqb _ _ c.if-has-eq1.true, ne_eqb _ _ c.if-count-asked.false)

pub returns-else-has-eq1 : goal.returns-else-has-eq1
returns-else-has-eq1 c = rw (ne_eqb _ _ c.if-has-eq1.false)
