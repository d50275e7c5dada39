-- Weights of the lowest neighbours: any two lists that the contract in src/ allows are equal.
-- Assumes nothing.
use mathlib.Core.Path.{refl}
use Rattle.lists.proofs.Determined.{one_answer}
use Rattle.lists.specs.Contract.{OneOutcome}
use Rattle.lowest.proofs.lowest_weights.Kinds as lowest-weights-kinds
use Rattle.lowest.proofs.lowest_weights.Reads as lowest-weights

pub lowest-weights-one : OneOutcome 4 lowest-weights-kinds.ps lowest-weights-kinds.r lowest-weights.Asked lowest-weights.Learnt
    (λ κs a r e. e.1.1.1.1.1.0.now)
lowest-weights-one κs a p r r' e e' x y = (refl, one_answer x y)
