-- `answer_to` meets its contract: the list, the cell and the budget that are traced are those of the question.
-- Assumes nothing.
use Rattle.std.proofs.Common.{◌-◌, ◌/◌, ◌+◌, ◌*◌, ◌∙◌, length, replicate, refl}
use Rattle.lists.proofs.Overwrite.{overwrite-take}
use Rattle.lists.proofs.Tab.{tab-length}
use Rattle.sections.specs.LittleEndian.{number_at, numbers_at}
use Rattle.follow.proofs.answer_to.Goals as goal

pub returns : goal.returns
returns c =
    let s = c.args.bytes.now in
    let n = (length s - 8) / 2 in
    let e = overwrite-take (numbers_at 2 s 8 n) (replicate 4096 0) n (tab-length (λ k. number_at 2 s (8 + 2 * k)) n) refl in
    c.trace.ensures ∙ rw (c.read_section.ensures, e, c.read-cell.ensures, c.read-budget.ensures)
