-- The record call: any two outcomes that its contract allows are equal, and so are any two answers for C. The contracts are those in src/.
-- Assumes nothing.
use Rattle.lists.proofs.Determined.{one_answer, one_outcome}
use Rattle.lists.specs.Contract.{OneAnswer, OneOutcome}
use Rattle.network_record.proofs.answer_for_c.Kinds as answer-for-c-kinds
use Rattle.network_record.proofs.answer_for_c.Reads as answer-for-c
use Rattle.network_record.proofs.record_over.Kinds as record-over-kinds
use Rattle.network_record.proofs.record_over.Reads as record-over

-- the answer and the lent record
pub record_over-one : OneOutcome 2 record-over-kinds.ps record-over-kinds.r record-over.Asked record-over.Learnt
    (λ κs a r e. e.1.1.1.0.now)
record_over-one κs a p r r' e e' x y = one_outcome x y

-- the answer as a number
pub answer_for_c-one : OneAnswer 0 answer-for-c-kinds.ps answer-for-c-kinds.r answer-for-c.Asked answer-for-c.Learnt
answer_for_c-one κs a p r r' e e' x y = one_answer x y
