-- Any two answers that a contract allows are equal. The contracts are those in src/.
-- Assumes nothing.
use Rattle.lists.proofs.Determined.{one_answer}
use Rattle.lists.specs.Contract.{OneAnswer}
use Rattle.rules.proofs.MannerTryFromU32.try_from.Kinds as try-from-kinds
use Rattle.rules.proofs.MannerTryFromU32.try_from.Reads as try-from
use Rattle.rules.proofs.is_outlet.Kinds as is-outlet-kinds
use Rattle.rules.proofs.is_outlet.Reads as is_outlet_lem
use Rattle.rules.proofs.is_wet.Kinds as is-wet-kinds
use Rattle.rules.proofs.is_wet.Reads as is-wet

pub is_outlet-one : OneAnswer 0 is-outlet-kinds.ps is-outlet-kinds.r is_outlet_lem.Asked is_outlet_lem.Learnt
is_outlet-one κs a p r r' e e' x y = one_answer x y

pub is_wet-one : OneAnswer 0 is-wet-kinds.ps is-wet-kinds.r is-wet.Asked is-wet.Learnt
is_wet-one κs a p r r' e e' x y = one_answer x y

pub try_from_one : OneAnswer 0 try-from-kinds.ps try-from-kinds.r try-from.Asked try-from.Learnt
try_from_one κs a p r r' e e' x y = one_answer x y
