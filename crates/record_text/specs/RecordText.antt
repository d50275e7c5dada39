-- What a program that reads one ground record prints, for every input: what it has to say of the ground, or why the input is refused.
-- Assumes nothing.
use Rattle.std.specs.Prelude.{Err, List, Ok, ℕ, leb, length}
use Rattle.ground.specs.Judge.{Judged, judge_record, must, refusal_number, refusal_place}
use Rattle.ground.specs.Record.{ground_of_record}
use Rattle.ground.specs.Rooms.{any_room}
use Rattle.rules.specs.Ground.{Ground}
use Rattle.text.specs.Text.{refused_text}
use Rattle.ground.specs.declared.Refusal.TheVariants.{BadLength}

-- the bytes of the largest record, of 64 by 64 cells
abbrev pub longest_record : ℕ
longest_record = 28688

-- input that is too long for any record is refused with 2, place 0, before anything in it is judged
unfoldable pub judge_input : List ℕ → Judged
judge_input s = must (leb (length s) longest_record) BadLength (judge_record any_room s)

module _ (text_of : Ground → List ℕ) where
  -- the text of a ground that is accepted, and number and place of a refusal
  abbrev pub judged_text : Judged → Ground → List ℕ
  judged_text (Ok size) g = text_of g
  judged_text (Err why) g = refused_text (refusal_number why) (refusal_place why)

  unfoldable pub record_text : List ℕ → List ℕ
  record_text s = judged_text (judge_input s) (ground_of_record s)
