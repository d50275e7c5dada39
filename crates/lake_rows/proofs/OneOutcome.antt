-- A lake's numbers: any two answers that a contract allows are equal. The contracts are those in src/.
-- Assumes nothing.
use Rattle.lists.proofs.Determined.{one_answer}
use Rattle.lists.specs.Contract.{OneAnswer}
use Rattle.lake_rows.proofs.count_in.Kinds as count-in-kinds
use Rattle.lake_rows.proofs.count_in.Reads as count-in
use Rattle.lake_rows.proofs.least_in.Kinds as least-in-kinds
use Rattle.lake_rows.proofs.least_in.Reads as least_in_fact
use Rattle.lake_rows.proofs.level_in.Kinds as level-in-kinds
use Rattle.lake_rows.proofs.level_in.Reads as level_in
use Rattle.lake_rows.proofs.volume_in.Kinds as volume-in-kinds
use Rattle.lake_rows.proofs.volume_in.Reads as volume-in

pub level_in-one : OneAnswer 1 level-in-kinds.ps level-in-kinds.r level_in.Asked level_in.Learnt
level_in-one κs a p r r' e e' x y = one_answer x y

pub count_in-one : OneAnswer 1 count-in-kinds.ps count-in-kinds.r count-in.Asked count-in.Learnt
count_in-one κs a p r r' e e' x y = one_answer x y

pub least_in-one : OneAnswer 1 least-in-kinds.ps least-in-kinds.r least_in_fact.Asked least_in_fact.Learnt
least_in-one κs a p r r' e e' x y = one_answer x y

pub volume_in-one : OneAnswer 1 volume-in-kinds.ps volume-in-kinds.r volume-in.Asked volume-in.Learnt
volume_in-one κs a p r r' e e' x y = one_answer x y
