-- `network_impostors::answers::accepted_three_by_three` meets its contract: the cases and the tests of the code are the definition's.
-- Assumes nothing.
use borrow.Author.Tests.{eq-eqb, ne_eqb}
use Rattle.network_impostors.proofs.answers.accepted_three_by_three.Goals as goal

pub returns-then-size-eq3 : goal.returns-then-size-eq3
returns-then-size-eq3 c = rw (c.in-Ok.is, eq-eqb _ _ c.if-size-eq3.true)

pub returns-else-size-eq3 : goal.returns-else-size-eq3
returns-else-size-eq3 c = rw (c.in-Ok.is, ne_eqb _ _ c.if-size-eq3.false)
