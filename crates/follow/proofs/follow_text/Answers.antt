-- `follow_text` meets its contract: a question has its answer's text, and any other input that of refusal 2.
-- Assumes nothing.
use Rattle.std.proofs.Common.{ap, sym, ◌∙◌, length}
use Rattle.follow.proofs.Input.{asked_text, Question, question, refused_text_lem}
use Rattle.follow.specs.Follow.{traced_text}
use Rattle.text.proofs.Writing.{printed_same}
use Rattle.follow.proofs.follow_text.Goals as goal

pub returns-then-is_question : goal.returns-then-is_question
returns-then-is_question c =
    let s = c.args.bytes.now in
    let q : Question (length s) = question (length s) (sym c.is_question.ensures ∙ c.if-is_question.true) in
    printed_same c.write_answer.ensures (ap traced_text c.answer_to.ensures ∙ sym (asked_text s q.listed))

pub returns : goal.returns
returns c =
    printed_same c.write_refused.ensures (sym (refused_text_lem c.args.bytes.now (sym c.is_question.ensures ∙ c.if-is_question.false)))
