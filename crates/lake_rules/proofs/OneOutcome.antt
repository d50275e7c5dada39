-- Any two answers that a contract allows are equal. The contract is that in src/.
-- Assumes nothing.
use Rattle.lake_rules.proofs.is_flagged.Kinds as is-flagged-kinds
use Rattle.lake_rules.proofs.is_flagged.Reads as is-flagged
use Rattle.lists.proofs.Determined.{one_answer}
use Rattle.lists.specs.Contract.{OneAnswer}

pub is-flagged-one : OneAnswer 0 is-flagged-kinds.ps is-flagged-kinds.r is-flagged.Asked is-flagged.Learnt
is-flagged-one κs a p r r' e e' x y = one_answer x y
