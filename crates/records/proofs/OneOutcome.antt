-- Reading and writing a record: any two outcomes that a contract allows are equal. The contracts are those in src/.
-- Assumes nothing.
use Rattle.lists.proofs.Determined.{one_outcome}
use Rattle.lists.specs.Contract.{OneOutcome}
use Rattle.records.specs.Calls.{three_lists}
use Rattle.records.proofs.read_record.Kinds as read-record-kinds
use Rattle.records.proofs.read_record.Reads as read-record
use Rattle.records.proofs.write_record.Kinds as write-record-kinds
use Rattle.records.proofs.write_record.Reads as write-record

-- the answer and the three lists
pub read_one : OneOutcome 4 read-record-kinds.ps read-record-kinds.r read-record.Asked read-record.Learnt
    (λ κs a r e. three_lists e.1.0.now e.1.1.0.now e.1.1.1.0.now)
read_one κs a p r r' e e' x y = one_outcome x y

-- the answer and the record
pub written_one : OneOutcome 4 write-record-kinds.ps write-record-kinds.r write-record.Asked write-record.Learnt
    (λ κs a r e. e.1.1.1.1.1.0.now)
written_one κs a p r r' e e' x y = one_outcome x y
