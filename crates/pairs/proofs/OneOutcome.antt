-- Any two answers that a contract allows are equal. The contracts are those in src/.
-- Assumes nothing.
use Rattle.kinds.specs.Kinds.{as_cell}
use Rattle.lists.proofs.Determined.{one_answer}
use Rattle.lists.specs.Contract.{OneAnswer}
use Rattle.pairs.proofs.lesser.Kinds as lesser-kinds
use Rattle.pairs.proofs.lesser.Reads as lesser
use Rattle.pairs.proofs.greater.Kinds as greater-kinds
use Rattle.pairs.proofs.greater.Reads as greater
use Rattle.pairs.proofs.height.Kinds as height-kinds
use Rattle.pairs.proofs.height.Reads as height

pub lesser-one : OneAnswer 0 lesser-kinds.ps lesser-kinds.r lesser.Asked lesser.Learnt
lesser-one κs a p r r' e e' x y = λ i. as_cell (one_answer x y i)

pub greater-one : OneAnswer 0 greater-kinds.ps greater-kinds.r greater.Asked greater.Learnt
greater-one κs a p r r' e e' x y = λ i. as_cell (one_answer x y i)

pub height-one : OneAnswer 1 height-kinds.ps height-kinds.r height.Asked height.Learnt
height-one κs a p r r' e e' x y = one_answer x y
