-- Weights, and first receivers from them: any two lists that a contract in src/ allows are equal, for whatever tile the weights are.
-- Assumes nothing.
use Rattle.std.proofs.Common.{refl}
use Rattle.lists.proofs.Determined.{one_answer}
use Rattle.lists.specs.Contract.{OneOutcome}
use Rattle.first_receivers.proofs.weights.Kinds as weights-kinds
use Rattle.first_receivers.proofs.weights.Reads as weights
use Rattle.first_receivers.proofs.first_receivers.Kinds as first-receivers-kinds
use Rattle.first_receivers.proofs.first_receivers.Reads as first-receivers

pub weights-one : OneOutcome 3 weights-kinds.ps weights-kinds.r weights.Asked weights.Learnt
    (λ κs a r e. e.1.1.1.1.0.now)
weights-one κs a p r r' e e' x y = (refl, one_answer x y)

pub first_receivers-one : OneOutcome 2 first-receivers-kinds.ps first-receivers-kinds.r first-receivers.Asked first-receivers.Learnt
    (λ κs a r e. e.1.1.1.1.0.now)
first_receivers-one κs a p r r' e e' x y = let (heights, marks, W) = p.0 in (refl, one_answer (x heights marks W) (y heights marks W))
