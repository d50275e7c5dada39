-- Document 01, "Records" and "Numbers given back": what reading and writing a ground record allow.
-- Assumes nothing.
use Rattle.std.specs.Prelude.{List, ℕ, ℤ}
use Rattle.ground.specs.Judge.{judge_lists, judge_record, leaves}
use Rattle.ground.specs.Record.{ground_of_record, record_of}
use Rattle.ground.specs.Rooms.{lists_hold, record_holds}
use Rattle.lists.specs.Allowed.{Allowed}
use Rattle.rules.specs.Ground.{Ground}
use Rattle.ground.specs.Judge.{Judged}

-- the three lent lists
pub record ThreeLists : Type 0 where
  pub heights : List ℤ
  pub marks : List ℕ
  pub water : List ℕ

abbrev pub three_lists : (heights : List ℤ) (marks water : List ℕ) → ThreeLists
three_lists h m w = record { heights = h; marks = m; water = w }

-- the lists after an answer: those of the ground at their start where accepted, and all as they were where refused
abbrev pub left_of : Judged → (g : Ground) (before : ThreeLists) → ThreeLists
left_of r g before =
    three_lists (leaves r g.heights before.heights) (leaves r g.marks before.marks) (leaves r g.water before.water)

-- the judgement of a record that is to be read: the shortest of the three lists is the room
abbrev pub read_judgement : (bytes : List ℕ) (before : ThreeLists) → Judged
read_judgement bytes before = judge_record (lists_hold before.heights before.marks before.water) bytes

-- reading a record: it is judged, and the lists are left with its ground
abbrev pub Read : (bytes : List ℕ) (before : ThreeLists) (r : Judged) (after : ThreeLists) → Type 0
Read bytes before = Allowed (read_judgement bytes before) (λ r. left_of r (ground_of_record bytes) before)

-- writing a ground: its lists are judged, with the lent record as room, and the record is left with its bytes
abbrev pub Written : (g : Ground) (before : List ℕ) (r : Judged) (after : List ℕ) → Type 0
Written g before = Allowed (judge_lists (record_holds before) g) (λ r. leaves r (record_of g) before)
