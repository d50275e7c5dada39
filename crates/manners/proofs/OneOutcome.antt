-- The walk in the manner asked for: any two outcomes that the contract in src/ allows are equal, but for the cells' places of the stack and for
-- the links, which are work space once they are walked.
-- Assumes nothing.
use mathlib.Core.Path.{refl}
use lib.ListN.{drop, length}
use Rattle.lists.proofs.Determined.{one_answer}
use Rattle.lists.specs.Contract.{OneOutcome}
use Rattle.walk.specs.Walk.{lent}
use Rattle.manners.proofs.walk_by.Kinds as walk-by-kinds
use Rattle.manners.proofs.walk_by.Reads as walk-by

-- what is past the cells' places on the stack, order, receivers, levels and wet
pub walk_by-one : OneOutcome 8 walk-by-kinds.ps walk-by-kinds.r walk-by.Asked walk-by.Learnt
    (λ κs a r e. lent (drop (length a.1.1.1.0.now) e.1.1.1.1.1.1.0.now) e.1.1.1.1.1.1.1.0.now
    e.1.1.1.1.1.1.1.1.0.now e.1.1.1.1.1.1.1.1.1.0.now e.1.1.1.1.1.1.1.1.1.1.0.now)
walk_by-one κs a p r r' e e' x y =
    let past = one_answer x.past y.past in
    let order = one_answer x.order_is y.order_is in
    let receivers = one_answer x.receivers_are y.receivers_are in
    let levels = one_answer x.levels_are y.levels_are in
    let wets = one_answer x.wets_are y.wets_are in
    (refl, λ i. lent (past i) (order i) (receivers i) (levels i) (wets i))
