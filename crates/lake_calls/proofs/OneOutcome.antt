-- The answer to what was found, its numbers, and the call from lists to lists: any two outcomes that a contract in src/ allows are equal.
-- Assumes nothing.
use Rattle.lake_calls.specs.LakeCall.{lake_lists}
use Rattle.lists.proofs.Determined.{one_answer, one_outcome}
use Rattle.lists.specs.Contract.{OneAnswer, OneOutcome}
use Rattle.lake_calls.proofs.LakesRefusalFromRefusal.from.Kinds as from-refusal-kinds
use Rattle.lake_calls.proofs.LakesRefusalFromRefusal.from.Reads as from-refusal
use Rattle.lake_calls.proofs.LakesRefusalFromTooDeep.from.Kinds as from-too-deep-kinds
use Rattle.lake_calls.proofs.LakesRefusalFromTooDeep.from.Reads as from-too-deep
use Rattle.lake_calls.proofs.judge_found.Kinds as judge-found-kinds
use Rattle.lake_calls.proofs.judge_found.Reads as judge-found
use Rattle.lake_calls.proofs.lakes_number.Kinds as lakes-number-kinds
use Rattle.lake_calls.proofs.lakes_number.Reads as lakes-number
use Rattle.lake_calls.proofs.lakes_of_lists.Kinds as lakes-of-lists-kinds
use Rattle.lake_calls.proofs.lakes_of_lists.Reads as lakes-of-lists
use Rattle.lake_calls.proofs.lakes_place.Kinds as lakes-place-kinds
use Rattle.lake_calls.proofs.lakes_place.Reads as lakes-place

pub lakes_number-one : OneAnswer 0 lakes-number-kinds.ps lakes-number-kinds.r lakes-number.Asked lakes-number.Learnt
lakes_number-one κs a p r r' e e' x y = one_answer x y

pub lakes_place-one : OneAnswer 0 lakes-place-kinds.ps lakes-place-kinds.r lakes-place.Asked lakes-place.Learnt
lakes_place-one κs a p r r' e e' x y = one_answer x y

pub judge_found-one : OneAnswer 0 judge-found-kinds.ps judge-found-kinds.r judge-found.Asked judge-found.Learnt
judge_found-one κs a p r r' e e' x y = one_answer x y

-- the answer and the four lists
pub lakes_of_lists_one : OneOutcome 7 lakes-of-lists-kinds.ps lakes-of-lists-kinds.r lakes-of-lists.Asked lakes-of-lists.Learnt
    (λ κs a r e. lake_lists e.1.1.1.1.1.0.now e.1.1.1.1.1.1.0.now e.1.1.1.1.1.1.1.0.now
    e.1.1.1.1.1.1.1.1.0.now)
lakes_of_lists_one κs a p r r' e e' x y = one_outcome x y

pub from_refusal_one : OneAnswer 0 from-refusal-kinds.ps from-refusal-kinds.r from-refusal.Asked from-refusal.Learnt
from_refusal_one κs a p r r' e e' x y = one_answer x y

pub from_too_deep_one : OneAnswer 0 from-too-deep-kinds.ps from-too-deep-kinds.r from-too-deep.Asked from-too-deep.Learnt
from_too_deep_one κs a p r r' e e' x y = one_answer x y
