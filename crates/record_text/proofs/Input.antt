-- What is printed for an input, by its answer: the ground's text where accepted, and the refusal. And its first 28,689 bytes decide it.
-- Assumes nothing.
use mathlib.Core.List.{List}
use mathlib.Core.Path.{ap, sym, ◌∙◌, ◌≡◌}
use Prim.Native.Nat.{ℕ, ◌+◌, ◌<◌}
use lib.Dec.{leb}
use lib.ListN.{length, take}
use borrow.Author.Tests.{le-leb, lt-leb}
use Rattle.ground.proofs.Acceptance.{accepted_length, must_held, record_accepted}
use Rattle.ground.specs.Accepted.{AcceptedRecord}
use Rattle.ground.specs.Judge.{Accepted, Judged, judge_record, Refused, refusal_number, refusal_place}
use Rattle.ground.specs.Record.{ground_in, ground_of_record}
use Rattle.ground.specs.Rooms.{any_room}
use Rattle.record_stages.proofs.Accepted.{named_ground, readable_here}
use Rattle.record_stages.specs.Readable.{Readable}
use Rattle.record_text.specs.RecordText.{judged_text, judge_input, longest_record, record_text}
use Rattle.rules.specs.Ground.{Ground}
use Rattle.text.proofs.Inputs.{enough_read}
use Rattle.text.specs.Text.{refused_text}
use Rattle.ground.specs.declared.Refusal.{Refusal}
use Rattle.ground.specs.declared.Refusal.TheVariants.{BadLength}

too_long : (s : List ℕ) → longest_record < length s → judge_input s ≡ Refused BadLength
unfolding judge_input
too_long s h = rw (lt-leb (length s) longest_record h)

input_accepted : (s : List ℕ) {w h : ℕ} → judge_input s ≡ Accepted w h → AcceptedRecord any_room s w h
unfolding judge_input
input_accepted s e = record_accepted any_room s (must_held (leb (length s) longest_record) BadLength (judge_record any_room s) e).1

-- no record that is accepted is too long to be judged
pub accepted_input : (s : List ℕ) {w h : ℕ} → judge_record any_room s ≡ Accepted w h → judge_input s ≡ Accepted w h
unfolding judge_input
accepted_input s e = rw (le-leb (length s) longest_record (accepted_length s (record_accepted any_room s e)).1) e

-- the ground of an accepted input can be read
pub input_readable : (s : List ℕ) {w h : ℕ} → judge_input s ≡ Accepted w h → Readable s w h
input_readable s {w} {h} e = readable_here any_room s w h (input_accepted s e)

module _ (text_of : Ground → List ℕ) where
  judged_text_lem : (s : List ℕ) {j : Judged} → judge_input s ≡ j → record_text text_of s ≡ judged_text text_of j (ground_of_record s)
  unfolding record_text
  judged_text_lem s e = ap (λ (j : Judged). judged_text text_of j (ground_of_record s)) e

  pub refused_text_lem : (s : List ℕ) {why : Refusal} → judge_input s ≡ Refused why
      → record_text text_of s ≡ refused_text (refusal_number why) (refusal_place why)
  refused_text_lem s e = judged_text_lem s e

  pub accepted_text : (s : List ℕ) {w h : ℕ} → judge_input s ≡ Accepted w h → record_text text_of s ≡ text_of (ground_in s w h)
  accepted_text s {w} {h} e = judged_text_lem s e ∙ ap text_of (sym (named_ground any_room s w h (input_accepted s e)))

  -- one byte more than the largest record is enough to read
  pub record_enough : (s : List ℕ) → record_text text_of (take (longest_record + 1) s) ≡ record_text text_of s
  record_enough = enough_read (record_text text_of) longest_record (refused_text 2 0) (λ s h. refused_text_lem s (too_long s h))
