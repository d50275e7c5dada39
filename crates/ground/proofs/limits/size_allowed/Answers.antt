-- `ground::limits::size_allowed` meets its contract: the four tests of the code are the definition's.
-- Assumes nothing.
use borrow.Author.Tests.{le-leb, lt-leb}
use Rattle.ground.proofs.limits.size_allowed.Goals as goal

pub returns-then-height-ge1 : goal.returns-then-height-ge1
returns-then-height-ge1 c = rw (le-leb _ _ c.if-width-ge1.true, le-leb _ _ c.if-width-le64.true, le-leb _ _ c.if-height-ge1.true)

pub returns-else-height-ge1 : goal.returns-else-height-ge1
returns-else-height-ge1 c = rw (le-leb _ _ c.if-width-ge1.true, le-leb _ _ c.if-width-le64.true, lt-leb _ _ c.if-height-ge1.false)

pub returns-else-width-le64 : goal.returns-else-width-le64
returns-else-width-le64 c = rw (le-leb _ _ c.if-width-ge1.true, lt-leb _ _ c.if-width-le64.false)

pub returns-else-width-ge1 : goal.returns-else-width-ge1
returns-else-width-ge1 c = rw (lt-leb _ _ c.if-width-ge1.false)
