-- The walk: any two outcomes that the contract in src/ allows are equal, but for the cells' places of the stack.
-- Assumes nothing.
use Rattle.std.proofs.Common.{length, drop, refl}
use Rattle.lists.proofs.Determined.{one_answer}
use Rattle.lists.proofs.Noted.{noted_one}
use Rattle.lists.specs.Contract.{OneOutcome}
use Rattle.walk.specs.Walk.{lent}
use Rattle.walk.proofs.walk_links.Kinds as walk-links-kinds
use Rattle.walk.proofs.walk_links.Reads as walk-links

-- what is past the cells' places on the stack, order, receivers, levels and wet
pub walk_links-one : OneOutcome 8 walk-links-kinds.ps walk-links-kinds.r walk-links.Asked walk-links.Learnt
    (λ κs a r e. lent (drop (length a.1.1.0.now) e.1.1.1.1.1.0.now) e.1.1.1.1.1.1.0.now e.1.1.1.1.1.1.1.0.now
    e.1.1.1.1.1.1.1.1.0.now e.1.1.1.1.1.1.1.1.1.0.now)
walk_links-one κs a p r r' e e' x y =
    let (s, M) = p.0 in
    let u = x s M in
    let v = y s M in
    let past = one_answer u.past v.past in
    let order = one_answer u.order_is v.order_is in
    let receivers = noted_one u.receivers_are v.receivers_are in
    let levels = one_answer u.levels_are v.levels_are in
    let wets = noted_one u.wets_are v.wets_are in
    (refl, λ i. lent (past i) (order i) (receivers i) (levels i) (wets i))
