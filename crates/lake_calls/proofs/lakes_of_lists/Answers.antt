-- `lake_calls::lakes_of_lists` meets its contract: only the lakes of an accepted ground are looked for.
-- Assumes nothing.
use mathlib.Core.Path.{ap, sym, ◌∙◌, ◌≡◌}
use Rattle.ground.proofs.Acceptance.{lists_accepted}
use Rattle.ground.specs.Judge.{judge_lists}
use Rattle.ground.specs.Record.{ground_of_lists}
use Rattle.ground.specs.Rooms.{any_room}
use Rattle.lake_calls.specs.LakeCall.{judge_lakes, LakeLists, lake_lists, lakes_left, shortest_lake_list}
use Rattle.rules.specs.Ground.{Ground}
use Rattle.lake_stages.specs.LakesOn.{lakes_on}
use Rattle.std.proofs.lemmas.Result.{err_from_is_err_and}
use Rattle.std.specs.Prelude.{Err}
use Rattle.lake_calls.proofs.lakes_of_lists.Goals as goal
use Rattle.lake_calls.proofs.lakes_of_lists.Goals.{After-judge_lists}

abbrev ground : After-judge_lists → Ground
ground c = let a = c.args in ground_of_lists a.width a.height a.heights.now a.marks.now a.water.now

-- the four lists, as they were lent
abbrev before : After-judge_lists → LakeLists
before c = let a = c.args in lake_lists a.levels.now a.counts.now a.volumes.now a.leasts.now

pub list_accepted-requires : goal.list_accepted-requires
list_accepted-requires c = (
  c.args.water.now,
  (lists_accepted any_room (ground (goal.at.list_accepted-requires c).After-judge_lists)
      (sym c.judge_lists.ensures ∙ c.in_ok-judge_lists.was)).good,
)

pub returns-in_err-judge_lists : goal.returns-in_err-judge_lists
returns-in_err-judge_lists c =
    let at-place = (goal.at.returns-in_err-judge_lists c).After-judge_lists in
    let e : c.judge_lists.result ≡ judge_lists any_room (ground at-place) = c.judge_lists.ensures in
    let told = err_from_is_err_and c.from_residual.result c.from_residual.ensures.1 in
    let refused = told.1 ∙ ap Err told.2 in
    record {
      answer = refused ∙ ap (λ j. judge_lakes j (ground at-place) (shortest_lake_list (before at-place))) (sym c.in_err-judge_lists.was ∙ e);
      lists = ap (λ r. lakes_left r (lakes_on (ground at-place)) (before at-place)) (sym refused);
    }

pub returns : goal.returns
returns c =
    let at-place = (goal.at.returns c).After-judge_lists in
    let told = sym c.judge_lists.ensures ∙ c.in_ok-judge_lists.was in
    let A = c.list_accepted.ensures c.args.water.now (lists_accepted any_room (ground at-place) told).good in
    record {
      answer = A.answer ∙ ap (λ j. judge_lakes j (ground at-place) (shortest_lake_list (before at-place))) (sym told);
      lists = A.lists;
    }
