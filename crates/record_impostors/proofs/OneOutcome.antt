-- Any two outcomes that the contract of `read` allows are equal. The contract is that in src/.
-- Assumes nothing.
use Rattle.lists.proofs.Determined.{one_outcome}
use Rattle.lists.specs.Contract.{OneOutcome}
use Rattle.record_impostors.proofs.read.Kinds as read-kinds
use Rattle.record_impostors.proofs.read.Reads as read
use Rattle.records.specs.Calls.{three_lists}

-- the answer and the three lists
pub read_one : OneOutcome 4 read-kinds.ps read-kinds.r read.Asked read.Learnt
    (λ κs a r e. three_lists e.1.0.now e.1.1.0.now e.1.1.1.0.now)
read_one κs a p r r' e e' x y = one_outcome x y
