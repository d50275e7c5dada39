-- `record_text::judge_input` meets its contract: an input that is too long is refused, and else as the record that it is.
-- Assumes nothing.
use borrow.Author.Tests.{le-leb, lt-leb}
use Rattle.record_text.specs.RecordText.{judge_input, longest_record}
use Rattle.record_text.proofs.judge_input.Goals as goal

pub returns-then-bytes-gt28688 : goal.returns-then-bytes-gt28688
unfolding judge_input
returns-then-bytes-gt28688 c = rw (lt-leb _ longest_record c.if-bytes-gt28688.true)

pub returns : goal.returns
unfolding judge_input
returns c = rw (le-leb _ longest_record c.if-bytes-gt28688.false) c.check_record.ensures
