-- The calls with a count and a manner, what these ask for, and the numbers of an answer: any two outcomes that a contract in src/ allows are equal.
-- Assumes nothing.
use Rattle.lists.proofs.Determined.{one_answer, one_outcome}
use Rattle.lists.specs.Contract.{OneAnswer, OneOutcome}
use Rattle.rules.specs.SixLists.{six_lists}
use Rattle.network_by.proofs.NetworkRefusalFromRefusal.from.Kinds as from-refusal-kinds
use Rattle.network_by.proofs.NetworkRefusalFromRefusal.from.Reads as from-refusal
use Rattle.network_by.proofs.NetworkRefusalFromUnknownCount.from.Kinds as from-unknown-count-kinds
use Rattle.network_by.proofs.NetworkRefusalFromUnknownCount.from.Reads as from-unknown-count
use Rattle.network_by.proofs.NetworkRefusalFromUnknownManner.from.Kinds as from-unknown-manner-kinds
use Rattle.network_by.proofs.NetworkRefusalFromUnknownManner.from.Reads as from-unknown-manner
use Rattle.network_by.proofs.answer_for_c.Kinds as answer-for-c-kinds
use Rattle.network_by.proofs.answer_for_c.Reads as answer-for-c
use Rattle.network_by.proofs.asked_for.Kinds as asked-for-kinds
use Rattle.network_by.proofs.asked_for.Reads as asked-for
use Rattle.network_by.proofs.network_number.Kinds as network-number-kinds
use Rattle.network_by.proofs.network_number.Reads as network-number
use Rattle.network_by.proofs.network_of_lists.Kinds as network-of-lists-kinds
use Rattle.network_by.proofs.network_of_lists.Reads as network-of-lists
use Rattle.network_by.proofs.network_of_record.Kinds as network-of-record-kinds
use Rattle.network_by.proofs.network_of_record.Reads as network-of-record
use Rattle.network_by.proofs.network_place.Kinds as network-place-kinds
use Rattle.network_by.proofs.network_place.Reads as network-place

pub asked_for-one : OneAnswer 0 asked-for-kinds.ps asked-for-kinds.r asked-for.Asked asked-for.Learnt
asked_for-one κs a p r r' e e' x y = one_answer x y

pub network_number-one : OneAnswer 0 network-number-kinds.ps network-number-kinds.r network-number.Asked network-number.Learnt
network_number-one κs a p r r' e e' x y = one_answer x y

pub network_place-one : OneAnswer 0 network-place-kinds.ps network-place-kinds.r network-place.Asked network-place.Learnt
network_place-one κs a p r r' e e' x y = one_answer x y

-- the answer and the six lists
pub network_of_lists_one : OneOutcome 9 network-of-lists-kinds.ps network-of-lists-kinds.r network-of-lists.Asked network-of-lists.Learnt
    (λ κs a r e. six_lists e.1.1.1.1.1.1.1.0.now e.1.1.1.1.1.1.1.1.0.now e.1.1.1.1.1.1.1.1.1.0.now
    e.1.1.1.1.1.1.1.1.1.1.0.now e.1.1.1.1.1.1.1.1.1.1.1.0.now e.1.1.1.1.1.1.1.1.1.1.1.1.0.now)
network_of_lists_one κs a p r r' e e' x y = one_outcome x y

-- the answer and the lent record
pub network_of_record-one : OneOutcome 2 network-of-record-kinds.ps network-of-record-kinds.r network-of-record.Asked network-of-record.Learnt
    (λ κs a r e. e.1.1.1.0.now)
network_of_record-one κs a p r r' e e' x y = one_outcome x y

-- the answer as a number
pub answer_for_c-one : OneAnswer 0 answer-for-c-kinds.ps answer-for-c-kinds.r answer-for-c.Asked answer-for-c.Learnt
answer_for_c-one κs a p r r' e e' x y = one_answer x y

pub from_refusal_one : OneAnswer 0 from-refusal-kinds.ps from-refusal-kinds.r from-refusal.Asked from-refusal.Learnt
from_refusal_one κs a p r r' e e' x y = one_answer x y

pub from_unknown_count_one : OneAnswer 0 from-unknown-count-kinds.ps from-unknown-count-kinds.r from-unknown-count.Asked from-unknown-count.Learnt
from_unknown_count_one κs a p r r' e e' x y = one_answer x y

pub from_unknown_manner_one : OneAnswer 0 from-unknown-manner-kinds.ps from-unknown-manner-kinds.r from-unknown-manner.Asked from-unknown-manner.Learnt
from_unknown_manner_one κs a p r r' e e' x y = one_answer x y
