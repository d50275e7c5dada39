-- `askvimur_service::askvimur_lakes` meets its contract: the answer of the call, packed.
-- Assumes nothing.
use mathlib.Core.Path.{ap, ◌∙◌}
use Rattle.askvimur_service.specs.LakesCall.{lakes_answer_to, lakes_room_left}
use Rattle.askvimur_service.proofs.askvimur_lakes.Goals as goal

pub returns : goal.returns
returns c =
    let a = c.args in
    let e = c.lakes_of_record.ensures in
    record {
      answer = c.answer_for_c.ensures ∙ ap lakes_answer_to e.answer;
      lists = e.lists ∙ ap (lakes_room_left a.ground.now a.lakes.now) e.answer;
    }
