-- Any two answers that a contract allows are equal. The contracts are those in src/.
-- Assumes nothing.
use Rattle.lists.proofs.Determined.{one_answer}
use Rattle.lists.specs.Contract.{OneAnswer}
use Rattle.grid.proofs.NeighboursTryFromU32.try_from.Kinds as try-from-kinds
use Rattle.grid.proofs.NeighboursTryFromU32.try_from.Reads as try-from
use Rattle.grid.proofs.row_above.Kinds as row-above-kinds
use Rattle.grid.proofs.row_above.Reads as row-above
use Rattle.grid.proofs.row_below.Kinds as row-below-kinds
use Rattle.grid.proofs.row_below.Reads as row-Below

pub row_above-one : OneAnswer 0 row-above-kinds.ps row-above-kinds.r row-above.Asked row-above.Learnt
row_above-one κs a p r r' e e' x y = one_answer x y

pub row_below-one : OneAnswer 0 row-below-kinds.ps row-below-kinds.r row-Below.Asked row-Below.Learnt
row_below-one κs a p r r' e e' x y = one_answer x y

pub try_from_one : OneAnswer 0 try-from-kinds.ps try-from-kinds.r try-from.Asked try-from.Learnt
try_from_one κs a p r r' e e' x y = one_answer x y
