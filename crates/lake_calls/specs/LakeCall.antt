-- W-202: what a call that lists the lakes of a ground answers, and what it leaves in the lent lists.
-- Assumes nothing.
use Rattle.std.specs.Prelude.{Bool, Err, false, true, List, map, min, Ok, Result, ℕ, leb, ℤ, length}
use Rattle.ground.specs.Judge.{Judged, judge_lists, refusal_number, refusal_place}
use Rattle.ground.specs.Rooms.{any_room}
use Rattle.lake_list.specs.Rows.{found_of}
use Rattle.lake_rules.specs.Lakes.{Lake}
use Rattle.lake_stages.specs.LakesOn.{lakes_on, too_deep_on}
use Rattle.lists.specs.Allowed.{Allowed}
use Rattle.lists.specs.Lists.{overwrite}
use Rattle.rules.specs.Ground.{dropped, Ground}
use Rattle.ground.specs.declared.Refusal.TheVariants.{NoRoom}
use Rattle.lake_calls.specs.declared.LakesRefusal.{LakesRefusal}
use Rattle.lake_calls.specs.declared.LakesRefusal.TheVariants.{Ground as Refused, TooDeep as Deep}
use Rattle.lake_list.specs.declared.TooDeep.{TooDeep}

-- how many lakes are listed, or why none
abbrev pub LakesAnswer : Type 0
LakesAnswer = Result ℕ LakesRefusal

-- the number given back: 0 where the lakes are listed, 10 where one is too deep
abbrev pub lakes_number : LakesAnswer → ℕ
lakes_number (Ok n) = 0
lakes_number (Err (Refused why)) = refusal_number why
lakes_number (Err (Deep c)) = 10

-- and the place: the least cell of the first lake that is too deep
abbrev pub lakes_place : LakesAnswer → ℕ
lakes_place (Ok n) = 0
lakes_place (Err (Refused why)) = refusal_place why
lakes_place (Err (Deep c)) = c.0

-- 3 unless there is room
abbrev pub must_hold : Bool → LakesAnswer → LakesAnswer
must_hold true next = next
must_hold false next = Err (Refused NoRoom)

-- 10, and then 3, of a ground that is accepted: `room` lakes find room
abbrev pub judge_found : Result ℕ TooDeep → (room : ℕ) → LakesAnswer
judge_found (Err lake) room = Err (Deep lake.0)
judge_found (Ok n) room = must_hold (leb n room) (Ok n)

-- after all that judge the ground
abbrev pub judge_lakes : Judged → Ground → (room : ℕ) → LakesAnswer
judge_lakes (Err why) g room = Err (Refused why)
judge_lakes (Ok size) g room = judge_found (found_of (too_deep_on g) (lakes_on g)) room

-- the four lists of lakes: levels, numbers of cells, volumes and least cells
pub record LakeLists : Type 0 where
  pub levels : List ℤ
  pub counts : List ℕ
  pub volumes : List ℕ
  pub leasts : List ℕ

abbrev pub lake_lists : List ℤ → List ℕ → List ℕ → List ℕ → LakeLists
lake_lists levels counts volumes leasts = record { levels = levels; counts = counts; volumes = volumes; leasts = leasts }

-- lakes at the start of four lists; entries past them are as they were
abbrev pub lakes_onto : List Lake → LakeLists → LakeLists
lakes_onto ls before =
    lake_lists (overwrite (map (λ x. dropped x.level) ls) before.levels) (overwrite (map (λ x. x.count) ls) before.counts)
    (overwrite (map (λ x. x.volume) ls) before.volumes) (overwrite (map (λ x. x.least) ls) before.leasts)

-- 3: the shortest decides
abbrev pub shortest_lake_list : LakeLists → ℕ
shortest_lake_list s = min (length s.levels) (min (length s.counts) (min (length s.volumes) (length s.leasts)))

-- the lists after an answer: the lakes where they are listed, and all as it was where refused
abbrev pub lakes_left : LakesAnswer → List Lake → LakeLists → LakeLists
lakes_left (Ok n) ls before = lakes_onto ls before
lakes_left (Err why) ls before = before

-- what the call on lists allows
abbrev pub LakesOutcome : (g : Ground) (before : LakeLists) (r : LakesAnswer) (after : LakeLists) → Type 0
LakesOutcome g before = Allowed (judge_lakes (judge_lists any_room g) g (shortest_lake_list before)) (λ r. lakes_left r (lakes_on g) before)
