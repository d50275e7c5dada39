-- The record call that lists lakes, as a result and for C, and the network over the neighbours asked for, for C: any two outcomes that a
-- contract in src/ allows are equal.
-- Assumes nothing.
use Rattle.lists.proofs.Determined.{one_outcome}
use Rattle.lists.specs.Contract.{OneOutcome}
use Rattle.askvimur_service.proofs.askvimur_lakes.Kinds as askvimur-lakes-kinds
use Rattle.askvimur_service.proofs.askvimur_lakes.Reads as askvimur-lakes
use Rattle.askvimur_service.proofs.askvimur_network_by.Kinds as network-by-kinds
use Rattle.askvimur_service.proofs.askvimur_network_by.Reads as network-by
use Rattle.askvimur_service.proofs.lakes_of_record.Kinds as lakes-of-record-kinds
use Rattle.askvimur_service.proofs.lakes_of_record.Reads as lakes-of-record

-- the answer and the lent room
pub lakes_of_record_one : OneOutcome 2 lakes-of-record-kinds.ps lakes-of-record-kinds.r lakes-of-record.Asked lakes-of-record.Learnt
    (λ κs a r e. e.1.0.now)
lakes_of_record_one κs a p r r' e e' x y = one_outcome x y

-- the answer as a number, and the lent room
pub askvimur_lakes-one : OneOutcome 2 askvimur-lakes-kinds.ps askvimur-lakes-kinds.r askvimur-lakes.Asked askvimur-lakes.Learnt
    (λ κs a r e. e.1.0.now)
askvimur_lakes-one κs a p r r' e e' x y = one_outcome x y

pub askvimur_network_by-one : OneOutcome 2 network-by-kinds.ps network-by-kinds.r network-by.Asked network-by.Learnt (λ κs a r e. e.1.1.1.0.now)
askvimur_network_by-one κs a p r r' e e' x y = one_outcome x y
