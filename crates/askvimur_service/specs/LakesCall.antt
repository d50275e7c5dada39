-- W-202: what the record call that lists lakes, and the C call, give back and leave.
-- Assumes nothing.
use Rattle.std.specs.Prelude.{Err, List, Ok, ℕ, ◌*◌, ◌+◌, ◌/◌, length}
use Rattle.ground.specs.Judge.{judge_record}
use Rattle.ground.specs.Record.{ground_of_record}
use Rattle.ground.specs.Rooms.{any_room}
use Rattle.lake_bytes.specs.LakeBytes.{lakes_bytes}
use Rattle.lake_calls.specs.LakeCall.{judge_lakes, LakesAnswer, lakes_number, lakes_place}
use Rattle.lake_rules.specs.Lakes.{Lake}
use Rattle.lake_stages.specs.LakesOn.{lakes_on}
use Rattle.lists.specs.Allowed.{Allowed}
use Rattle.lists.specs.Lists.{overwrite}
use Rattle.lake_calls.specs.declared.LakesRefusal.TheVariants.{Ground as Refused, TooDeep}

-- a room has as many lakes as whole 16 bytes fit
abbrev pub lakes_room : List ℕ → ℕ
lakes_room room = length room / 16

-- the room after an answer: the lakes' bytes at its start where they are listed, and as it was where refused
abbrev pub room_left : LakesAnswer → List Lake → List ℕ → List ℕ
room_left (Ok n) ls before = overwrite (lakes_bytes ls) before
room_left (Err (Refused why)) ls before = before
room_left (Err (TooDeep c)) ls before = before

-- the answer for C: how many lakes, or the refusal's number times 65,536 plus its place
abbrev pub lakes_answer_to : LakesAnswer → ℕ
lakes_answer_to (Ok n) = n
lakes_answer_to (Err why) = lakes_number (Err why) * 65536 + lakes_place (Err why)

module _ (bytes before : List ℕ) where
  -- the record's judgement, and that of its lakes, with the room
  abbrev pub lakes_judgement : LakesAnswer
  lakes_judgement = judge_lakes (judge_record any_room bytes) (ground_of_record bytes) (lakes_room before)

  abbrev pub lakes_room_left : LakesAnswer → List ℕ
  lakes_room_left r = room_left r (lakes_on (ground_of_record bytes)) before

  -- the record call
  abbrev pub LakesCalled : (r : LakesAnswer) (after : List ℕ) → Type 0
  LakesCalled = Allowed lakes_judgement lakes_room_left

  -- the same for C: the judgement as one number
  abbrev pub LakesCalledFromC : (r : ℕ) (after : List ℕ) → Type 0
  LakesCalledFromC = Allowed (lakes_answer_to lakes_judgement) (λ _. lakes_room_left lakes_judgement)
