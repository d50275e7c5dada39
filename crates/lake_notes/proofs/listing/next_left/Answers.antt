-- `lake_notes::next_left` meets its contract: the two cases.
-- Assumes nothing.
use borrow.Author.Tests.{eq-eqb, ne_eqb}
use Rattle.lake_notes.proofs.listing.next_left.Goals as goal

pub returns-then-left-eq1 : goal.returns-then-left-eq1
returns-then-left-eq1 c = rw (eq-eqb _ _ c.if-left-eq1.true)

pub returns-else-left-eq1 : goal.returns-else-left-eq1
returns-else-left-eq1 c = rw (ne_eqb _ _ c.if-left-eq1.false)
