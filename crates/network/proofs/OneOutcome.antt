-- Any two outcomes that the contracts of the network calls and of lifting heights allow are equal. The contracts are those in src/.
-- Assumes nothing.
use mathlib.Core.Path.{refl}
use Rattle.lists.proofs.Determined.{one_answer, one_outcome}
use Rattle.lists.specs.Contract.{OneOutcome}
use Rattle.rules.specs.SixLists.{six_lists}
use Rattle.network.proofs.lift_heights.Kinds as lift-heights-kinds
use Rattle.network.proofs.lift_heights.Reads as lift-heights
use Rattle.network.proofs.network.Kinds as network-kinds
use Rattle.network.proofs.network.Reads as network
use Rattle.network.proofs.network_over.Kinds as network-over-kinds
use Rattle.network.proofs.network_over.Reads as network-over

-- the list
pub lift_heights-one : OneOutcome 2 lift-heights-kinds.ps lift-heights-kinds.r lift-heights.Asked lift-heights.Learnt (λ κs a r e. e.1.0.now)
lift_heights-one κs a p r r' e e' x y = (refl, one_answer x y)

-- the answer and the six lists
pub network-one : OneOutcome 9 network-kinds.ps network-kinds.r network.Asked network.Learnt
    (λ κs a r e. six_lists e.1.1.1.1.1.0.now e.1.1.1.1.1.1.0.now e.1.1.1.1.1.1.1.0.now
    e.1.1.1.1.1.1.1.1.0.now e.1.1.1.1.1.1.1.1.1.0.now e.1.1.1.1.1.1.1.1.1.1.0.now)
network-one κs a p r r' e e' x y = one_outcome x y

pub network_over_one : OneOutcome 9 network-over-kinds.ps network-over-kinds.r network-over.Asked network-over.Learnt
    (λ κs a r e. six_lists e.1.1.1.1.1.1.1.0.now e.1.1.1.1.1.1.1.1.0.now e.1.1.1.1.1.1.1.1.1.0.now
    e.1.1.1.1.1.1.1.1.1.1.0.now e.1.1.1.1.1.1.1.1.1.1.1.0.now e.1.1.1.1.1.1.1.1.1.1.1.1.0.now)
network_over_one κs a p r r' e e' x y = one_outcome x y
