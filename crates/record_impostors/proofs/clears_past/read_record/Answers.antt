-- `record_impostors::clears_past::read_record` meets its contract: it is the reader's, and then one entry has been cleared.
-- Assumes nothing.
use mathlib.Core.Path.{ap, ◌∙◌}
use lib.ListN.{set}
use Rattle.records.specs.Calls.{ThreeLists, three_lists}
use Rattle.record_impostors.proofs.clears_past.read_record.Goals as goal

pub returns : goal.returns
returns c =
    let e = c.read_record-judged.ensures in
    let marks = c.clear_at.ensures ∙ ap (λ (l : ThreeLists). set l.marks 4096 0) e.lists in
    record { answer = e.answer; lists = λ i. three_lists (e.lists i).heights (marks i) (e.lists i).water }
