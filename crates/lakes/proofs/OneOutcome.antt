-- The text that `lakes` makes of an input: any two outcomes that the contract in src/ allows are equal.
-- Assumes nothing.
use Rattle.lists.specs.Contract.{OneOutcome}
use Rattle.text.proofs.OneOutcome.{printed_one}
use Rattle.lakes.proofs.lakes_text.Kinds as lakes-text-kinds
use Rattle.lakes.proofs.lakes_text.Reads as lakes-text

-- the text, and how many bytes it takes
pub lakes_text-one : OneOutcome 2 lakes-text-kinds.ps lakes-text-kinds.r lakes-text.Asked lakes-text.Learnt
    (λ κs a r e. e.1.0.now)
lakes_text-one κs a p r r' e e' x y = printed_one _ _ x y
