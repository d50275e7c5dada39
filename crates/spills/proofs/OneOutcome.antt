-- Any two outcomes that the contract in src/ allows are equal, but for the notes, which are work space.
-- Assumes nothing.
use mathlib.Core.Path.{refl}
use Rattle.lists.specs.Contract.{OneOutcome}
use Rattle.spills.proofs.Raised.{raised_one}
use Rattle.spills.proofs.spill_levels.Kinds as spill-levels-kinds
use Rattle.spills.proofs.spill_levels.Reads as spill-levels

pub spill-levels-one : OneOutcome 4 spill-levels-kinds.ps spill-levels-kinds.r spill-levels.Asked spill-levels.Learnt
    (λ κs a r e. e.1.1.1.1.0.now)
spill-levels-one κs a p r r' e e' x y = (refl, raised_one x y)
