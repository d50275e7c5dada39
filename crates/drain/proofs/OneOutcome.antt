-- The text that `drain` makes of an input: any two outcomes that the contract in src/ allows are equal.
-- Assumes nothing.
use Rattle.lists.specs.Contract.{OneOutcome}
use Rattle.text.proofs.OneOutcome.{printed_one}
use Rattle.drain.proofs.drain_text.Kinds as drain-text-kinds
use Rattle.drain.proofs.drain_text.Reads as drain-text

-- the text, and how many bytes it takes
pub drain_text-one : OneOutcome 2 drain-text-kinds.ps drain-text-kinds.r drain-text.Asked drain-text.Learnt
    (λ κs a r e. e.1.0.now)
drain_text-one κs a p r r' e e' x y = printed_one _ _ x y
