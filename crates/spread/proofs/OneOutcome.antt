-- Spreading: any two lists of counts that the contract in src/ allows are equal, whatever the masks say of where steps lead. What becomes of
-- the queue is not told: it is work space.
-- Assumes nothing.
use mathlib.Core.Path.{refl}
use Rattle.lists.proofs.Determined.{one_answer}
use Rattle.lists.specs.Contract.{OneOutcome}
use Rattle.spread.proofs.spread.Kinds as spread-kinds
use Rattle.spread.proofs.spread.Reads as spread-reads

pub spread_one : OneOutcome 3 spread-kinds.ps spread-kinds.r spread-reads.Asked spread-reads.Learnt (λ κs a r e. e.1.1.1.0.now)
spread_one κs a p r r' e e' x y = let (E, P) = p in (refl, one_answer (x E P) (y E P))
