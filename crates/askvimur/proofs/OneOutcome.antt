-- The record call, as a result and for C: any two outcomes that its contract allows are equal. The contracts are those in src/.
-- Assumes nothing.
use Rattle.lists.proofs.Determined.{one_outcome}
use Rattle.lists.specs.Contract.{OneOutcome}
use Rattle.askvimur.proofs.record_call.Kinds as record-call-kinds
use Rattle.askvimur.proofs.record_call.Reads as record-call
use Rattle.askvimur.proofs.askvimur_network.Kinds as askvimur-network-kinds
use Rattle.askvimur.proofs.askvimur_network.Reads as askvimur-network

-- the answer and the lent record
pub record_call_one : OneOutcome 2 record-call-kinds.ps record-call-kinds.r record-call.Asked record-call.Learnt
    (λ κs a r e. e.1.0.now)
record_call_one κs a p r r' e e' x y = one_outcome x y

-- the answer as a number, and the lent record
pub c_call_one : OneOutcome 2 askvimur-network-kinds.ps askvimur-network-kinds.r askvimur-network.Asked askvimur-network.Learnt
    (λ κs a r e. e.1.0.now)
c_call_one κs a p r r' e e' x y = one_outcome x y
