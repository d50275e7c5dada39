-- Any two answers that a contract allows are equal. The contracts are those in src/.
-- Assumes nothing.
use Rattle.lists.proofs.Determined.{one_answer}
use Rattle.lists.specs.Contract.{OneAnswer}
use Rattle.ground.proofs.check_record.Kinds as check-record-kinds
use Rattle.ground.proofs.check_record.Reads as check-record
use Rattle.ground.proofs.judge_record.Kinds as judge-record-kinds
use Rattle.ground.proofs.judge_record.Reads as judge-record
use Rattle.ground.proofs.check_lists.Kinds as check-lists-kinds
use Rattle.ground.proofs.check_lists.Reads as check-lists
use Rattle.ground.proofs.judge_lists.Kinds as judge-lists-kinds
use Rattle.ground.proofs.judge_lists.Reads as judge-lists
use Rattle.ground.proofs.number.Kinds as number-kinds
use Rattle.ground.proofs.number.Reads as number
use Rattle.ground.proofs.place.Kinds as place-kinds
use Rattle.ground.proofs.place.Reads as place
use Rattle.ground.proofs.cells.Kinds as cells-kinds
use Rattle.ground.proofs.cells.Reads as cells

pub check_record_one : OneAnswer 1 check-record-kinds.ps check-record-kinds.r check-record.Asked check-record.Learnt
check_record_one κs a p r r' e e' x y = one_answer x y

pub judge_record-one : OneAnswer 1 judge-record-kinds.ps judge-record-kinds.r judge-record.Asked judge-record.Learnt
judge_record-one κs a p r r' e e' x y = one_answer x y

pub check_lists_one : OneAnswer 3 check-lists-kinds.ps check-lists-kinds.r check-lists.Asked check-lists.Learnt
check_lists_one κs a p r r' e e' x y = one_answer x y

pub judge_lists-one : OneAnswer 3 judge-lists-kinds.ps judge-lists-kinds.r judge-lists.Asked judge-lists.Learnt
judge_lists-one κs a p r r' e e' x y = one_answer x y

pub number_one : OneAnswer 0 number-kinds.ps number-kinds.r number.Asked number.Learnt
number_one κs a p r r' e e' x y = one_answer x y

pub place-one : OneAnswer 0 place-kinds.ps place-kinds.r place.Asked place.Learnt
place-one κs a p r r' e e' x y = one_answer x y

pub cells-one : OneAnswer 0 cells-kinds.ps cells-kinds.r cells.Asked cells.Learnt
cells-one κs a p r r' e e' x y = one_answer x y
