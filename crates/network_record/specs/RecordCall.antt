-- Document 01, "Numbers given back": what the record call gives back and leaves, over the neighbours and in the
-- manner asked for.
-- Assumes nothing.
use Rattle.std.specs.Prelude.{Bool, Err, List, Ok, ℕ, ◌*◌, ◌+◌, length}
use Rattle.ground.specs.Judge.{judge_record, Judged, leaves, refusal_number, refusal_place}
use Rattle.ground.specs.Record.{ground_of_record}
use Rattle.ground.specs.Rooms.{room_for}
use Rattle.lists.specs.Allowed.{Allowed}
use Rattle.network_bytes.specs.NetworkRecord.{network_bytes, network_record}
use Rattle.rules.specs.Ground.{Ground}
use Rattle.rules.specs.Network.{network_by}
use Rattle.grid.specs.declared.Neighbours.{Neighbours}
use Rattle.rules.specs.declared.Manner.{Manner}

-- the network record of a ground
unfoldable pub network_record_by : Neighbours → Manner → Ground → List ℕ
network_record_by N M g = network_record g.width g.height (network_by N M g)

-- 3: a lent record of fewer than 15N + 28 bytes is too short
abbrev pub room_of : List ℕ → ℕ → Bool
room_of out = room_for 15 28 (length out)

-- the answer: the length of the record, or the refusal's number times 65,536 plus its place
abbrev pub answer_to : Judged → ℕ
answer_to (Ok size) = network_bytes (size.height * size.width)
answer_to (Err why) = refusal_number why * 65536 + refusal_place why

-- the record's judgement, with the lent record as room; it knows neither neighbours nor manner
abbrev pub judgement : (bytes before : List ℕ) → Judged
judgement bytes before = judge_record (room_of before) bytes

module _ (N : Neighbours) (M : Manner) (bytes before : List ℕ) where
  -- the lent record after an answer: the network record of the ground at its start where accepted, and as it was where refused
  abbrev pub left_record_by : Judged → List ℕ
  left_record_by r = leaves r (network_record_by N M (ground_of_record bytes)) before

  -- the record call: the judgement, and the lent record as it leaves it
  abbrev pub CalledBy : (r : Judged) (after : List ℕ) → Type 0
  CalledBy = Allowed (judgement bytes before) left_record_by

  -- the same for C: the judgement as one number
  abbrev pub CalledFromCBy : (r : ℕ) (after : List ℕ) → Type 0
  CalledFromCBy = Allowed (answer_to (judgement bytes before)) (λ _. left_record_by (judgement bytes before))
