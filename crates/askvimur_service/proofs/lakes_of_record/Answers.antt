-- `askvimur_service::lakes_of_record` meets its contract: only the lakes of an accepted record are looked for.
-- Assumes nothing.
use mathlib.Core.Path.{ap, subst, sym, ◌∙◌}
use Rattle.askvimur_service.specs.LakesCall.{lakes_room, room_left}
use Rattle.ground.proofs.Acceptance.{record_accepted}
use Rattle.ground.specs.Record.{ground_of_record}
use Rattle.ground.specs.Rooms.{any_room}
use Rattle.lake_calls.specs.LakeCall.{judge_found, judge_lakes}
use Rattle.lake_list.specs.Rows.{found_of}
use Rattle.lake_stages.specs.LakesOn.{lakes_on, too_deep_on}
use Rattle.lists.specs.Allowed.{Allowed}
use Rattle.record_stages.proofs.Accepted.{named_ground, readable_here}
use Rattle.rules.specs.Ground.{Ground}
use Rattle.ground.specs.Judge.{Judged}
use Rattle.std.proofs.lemmas.Result.{err_from_is_err_and}
use Rattle.std.specs.Prelude.{Err}
use Rattle.askvimur_service.proofs.lakes_of_record.Goals as goal

pub list_accepted-requires : goal.list_accepted-requires
list_accepted-requires c =
    let size = c.in_ok-size.size in
    let told = sym c.check_record.ensures ∙ c.in_ok-size.was in
    readable_here any_room c.args.ground.now size.width size.height (record_accepted any_room c.args.ground.now told)

pub returns-in_err-size : goal.returns-in_err-size
returns-in_err-size c =
    let a = c.args in
    let told = err_from_is_err_and c.from_residual.result c.from_residual.ensures.1 in
    let refused = told.1 ∙ ap Err told.2 in
    record {
      answer =
          refused
          ∙ ap (λ (j : Judged). judge_lakes j (ground_of_record a.ground.now) (lakes_room a.lakes.now))
          (sym c.in_err-size.was ∙ c.check_record.ensures);
      lists = ap (λ r. room_left r (lakes_on (ground_of_record a.ground.now)) a.lakes.now) (sym refused);
    }

pub returns : goal.returns
returns c =
    let a = c.args in
    let size = c.in_ok-size.size in
    let room = lakes_room a.lakes.now in
    let told = sym c.check_record.ensures ∙ c.in_ok-size.was in
    let A = subst (λ (g : Ground).
    Allowed (judge_found (found_of (too_deep_on g) (lakes_on g)) room) (λ r. room_left r (lakes_on g) a.lakes.now) c.list_accepted.result
    c.list_accepted.new.lakes)
    (named_ground any_room a.ground.now size.width size.height (record_accepted any_room a.ground.now told))
    c.list_accepted.ensures in
    record {
      answer = A.answer ∙ ap (λ (j : Judged). judge_lakes j (ground_of_record a.ground.now) room) (sym told);
      lists = A.lists;
    }
