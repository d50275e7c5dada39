-- Any two outcomes that a contract allows are equal. The contracts are those in src/.
-- Assumes nothing.
use Rattle.lists.proofs.Determined.{one_answer}
use Rattle.lists.specs.Contract.{OneAnswer}
use Rattle.heights.proofs.in_range.Kinds as in-range-kinds
use Rattle.heights.proofs.in_range.Reads as in-range
use Rattle.heights.proofs.bits_in_range.Kinds as bits-in-range-kinds
use Rattle.heights.proofs.bits_in_range.Reads as bits-in-range
use Rattle.heights.proofs.lift_bits.Kinds as lift-bits-kinds
use Rattle.heights.proofs.lift_bits.Reads as lift-bits
use Rattle.heights.proofs.drop_bits.Kinds as drop-bits-kinds
use Rattle.heights.proofs.drop_bits.Reads as drop-IsBits
use Rattle.heights.proofs.lift.Kinds as lift-kinds
use Rattle.heights.proofs.lift.Reads as lift
use Rattle.heights.proofs.drop_lift.Kinds as drop-lift-kinds
use Rattle.heights.proofs.drop_lift.Reads as drop-lift

pub in_range-one : OneAnswer 0 in-range-kinds.ps in-range-kinds.r in-range.Asked in-range.Learnt
in_range-one κs a p r r' e e' x y = one_answer x y

pub bits_in_range-one : OneAnswer 0 bits-in-range-kinds.ps bits-in-range-kinds.r bits-in-range.Asked bits-in-range.Learnt
bits_in_range-one κs a p r r' e e' x y = one_answer x y

pub lift_bits-one : OneAnswer 0 lift-bits-kinds.ps lift-bits-kinds.r lift-bits.Asked lift-bits.Learnt
lift_bits-one κs a p r r' e e' x y = one_answer x y

pub drop-bits-one : OneAnswer 0 drop-bits-kinds.ps drop-bits-kinds.r drop-IsBits.Asked drop-IsBits.Learnt
drop-bits-one κs a p r r' e e' x y = one_answer x y

pub lift_one : OneAnswer 0 lift-kinds.ps lift-kinds.r lift.Asked lift.Learnt
lift_one κs a p r r' e e' x y = one_answer x.0 y.0

pub drop_lift_one : OneAnswer 0 drop-lift-kinds.ps drop-lift-kinds.r drop-lift.Asked drop-lift.Learnt
drop_lift_one κs a p r r' e e' x y = one_answer x.0 y.0
