-- `ground::judge_record` meets its contract: under 16 bytes it is refused, and else by the width and the height of its trailer.
-- Assumes nothing.
use borrow.Author.Tests.{le-leb, lt-leb}
use Rattle.ground.specs.Judge.{judge_record}
use Rattle.ground.proofs.judge_record.Goals as goal

pub returns-then-bytes-lt16 : goal.returns-then-bytes-lt16
unfolding judge_record
returns-then-bytes-lt16 c =
    rw (lt-leb 16 _ c.if-bytes-lt16.true)

pub returns : goal.returns
unfolding judge_record
returns c =
    rw (le-leb 16 _ c.if-bytes-lt16.false, ← c.read-height.ensures, ← c.read-width.ensures)
    c.judge_sized.ensures
