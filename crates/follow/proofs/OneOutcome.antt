-- The text that `follow` makes of an input: any two outcomes that the contract in src/ allows are equal.
-- Assumes nothing.
use Rattle.lists.specs.Contract.{OneOutcome}
use Rattle.text.proofs.OneOutcome.{printed_one}
use Rattle.follow.proofs.follow_text.Kinds as follow-text-kinds
use Rattle.follow.proofs.follow_text.Reads as follow-text

-- the text, and how many bytes it takes
pub follow_text-one : OneOutcome 2 follow-text-kinds.ps follow-text-kinds.r follow-text.Asked follow-text.Learnt
    (λ κs a r e. e.1.0.now)
follow_text-one κs a p r r' e e' x y = printed_one _ _ x y
