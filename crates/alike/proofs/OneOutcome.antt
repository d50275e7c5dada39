-- Masks: any two lists that a contract in src/ allows are equal.
-- Assumes nothing.
use mathlib.Core.Path.{refl}
use Rattle.lists.proofs.Determined.{one_answer}
use Rattle.lists.specs.Contract.{OneOutcome}
use Rattle.alike.proofs.like_masks.Kinds as like-masks-kinds
use Rattle.alike.proofs.like_masks.Reads as like-masks
use Rattle.alike.proofs.neighbour_masks.Kinds as neighbour-masks-kinds
use Rattle.alike.proofs.neighbour_masks.Reads as neighbour-masks

pub neighbour_masks-one : OneOutcome 1 neighbour-masks-kinds.ps neighbour-masks-kinds.r neighbour-masks.Asked neighbour-masks.Learnt
    (λ κs a r e. e.1.1.1.0.now)
neighbour_masks-one κs a p r r' e e' x y = (refl, one_answer x y)

pub like_masks-one : OneOutcome 3 like-masks-kinds.ps like-masks-kinds.r like-masks.Asked like-masks.Learnt
    (λ κs a r e. e.1.1.1.1.0.now)
like_masks-one κs a p r r' e e' x y = (refl, one_answer x y)
