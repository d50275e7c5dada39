-- The text of the lakes of a list of rows: any two outcomes that the contract in src/ allows are equal.
-- Assumes nothing.
use Rattle.lists.specs.Contract.{OneOutcome}
use Rattle.text.proofs.OneOutcome.{printed_one}
use Rattle.lake_text.proofs.write_lakes.Kinds as write-lakes-kinds
use Rattle.lake_text.proofs.write_lakes.Reads as write-lakes

-- the text, and how many bytes it takes
pub write_lakes-one : OneOutcome 2 write-lakes-kinds.ps write-lakes-kinds.r write-lakes.Asked write-lakes.Learnt
    (λ κs a r e. e.0.now)
write_lakes-one κs a p r r' e e' x y = printed_one _ _ x y
