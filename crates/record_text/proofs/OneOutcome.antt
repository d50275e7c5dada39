-- The answer to an input, and the text of a refusal: any two outcomes that a contract in src/ allows are equal.
-- Assumes nothing.
use Rattle.lists.proofs.Determined.{one_answer}
use Rattle.lists.specs.Contract.{OneAnswer, OneOutcome}
use Rattle.text.proofs.OneOutcome.{printed_one}
use Rattle.record_text.proofs.judge_input.Kinds as judge-input-kinds
use Rattle.record_text.proofs.judge_input.Reads as judge-input
use Rattle.record_text.proofs.write_refusal.Kinds as write-refusal-kinds
use Rattle.record_text.proofs.write_refusal.Reads as write-refusal

pub judge_input-one : OneAnswer 1 judge-input-kinds.ps judge-input-kinds.r judge-input.Asked judge-input.Learnt
judge_input-one κs a p r r' e e' x y = one_answer x y

-- the text, and how many bytes it takes
pub write_refusal_one : OneOutcome 1 write-refusal-kinds.ps write-refusal-kinds.r write-refusal.Asked write-refusal.Learnt
    (λ κs a r e. e.0.now)
write_refusal_one κs a p r r' e e' x y = printed_one _ _ x y
