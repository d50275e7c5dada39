-- Any two outcomes that the contract of writing lakes allows are equal. The contract is that in src/.
-- Assumes nothing.
use mathlib.Core.Path.{refl}
use Rattle.lists.proofs.Determined.{one_answer}
use Rattle.lists.specs.Contract.{OneOutcome}
use Rattle.lake_bytes.proofs.write_lakes.Kinds as write-lakes-kinds
use Rattle.lake_bytes.proofs.write_lakes.Reads as write-lakes

-- the bytes
pub write_lakes-one : OneOutcome 2 write-lakes-kinds.ps write-lakes-kinds.r write-lakes.Asked write-lakes.Learnt (λ κs a r e. e.0.now)
write_lakes-one κs a p r r' e e' x y = (refl, one_answer x y)
