-- What the calls with a count (W-203) and a manner (W-205) allow: from lists to lists, from record to record, and that for C.
-- Assumes nothing.
use Rattle.std.specs.Prelude.{Err, List, ℕ, ◌*◌, ◌+◌, Ok, ℤ}
use Rattle.ground.specs.Judge.{judge_lists}
use Rattle.lists.specs.Allowed.{Allowed}
use Rattle.network.specs.Call.{left, network_holds}
use Rattle.network_by.specs.Counted.{asked_for, Counted, judged_by, left_by, NetworkAnswer, why_number, why_place}
use Rattle.network_record.specs.RecordCall.{answer_to, judgement, left_record_by}
use Rattle.rules.specs.Ground.{Ground}
use Rattle.rules.specs.Network.{Network, network_by}

-- six lent lists
abbrev pub ListsCounted : (count manner : ℕ) (g : Ground) (before : Network ℤ) (r : NetworkAnswer) (after : Network ℤ) → Type 0
ListsCounted count manner g before = Counted count manner (judge_lists (network_holds before) g) (λ N M j. left j (network_by N M g) before) before

-- a lent record
abbrev pub RecordCounted : (count manner : ℕ) (bytes before : List ℕ) (r : NetworkAnswer) (after : List ℕ) → Type 0
RecordCounted count manner bytes before = Counted count manner (judgement bytes before) (λ N M. left_record_by N M bytes before) before

-- the answer as one number, for C: the length written, or the refusal's number times 65,536 plus its place
abbrev pub network_answer_to : NetworkAnswer → ℕ
network_answer_to (Ok size) = answer_to (Ok size)
network_answer_to (Err why) = why_number why * 65536 + why_place why

module _ (count manner : ℕ) (bytes before : List ℕ) where
  -- the judgement of count and manner, and then the record's
  abbrev pub counted_judgement : NetworkAnswer
  counted_judgement = judged_by (asked_for count manner) (judgement bytes before)

  -- the call for C
  abbrev pub RecordCountedFromC : (r : ℕ) (after : List ℕ) → Type 0
  RecordCountedFromC =
      Allowed (network_answer_to counted_judgement)
      (λ _. left_by (asked_for count manner) (λ N M. left_record_by N M bytes before) before counted_judgement)
