-- `lake_notes::higher_of` meets its contract: the two cases.
-- Assumes nothing.
use borrow.Author.Tests.{le-ltb, lt-ltb}
use Rattle.lake_notes.proofs.meeting.higher_of.Goals as goal

pub returns-then-heights-index : goal.returns-then-heights-index
returns-then-heights-index c = (rw (lt-ltb _ _ (rw (c.index.ensures.0, c.index-2.ensures.0) at c.if-heights-index.true)), c.requires.1)

pub returns-else-heights-index : goal.returns-else-heights-index
returns-else-heights-index c = (rw (le-ltb _ _ (rw (c.index.ensures.0, c.index-2.ensures.0) at c.if-heights-index.false)), c.requires.0)
