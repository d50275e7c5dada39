-- From the record call with a count and a manner to its answer for C: an outcome's answer can be packed, packed it is an outcome for C, and the number, the
-- place and the length can be had back from it, as include/askvimur_service.h says.
-- Assumes nothing.
use mathlib.Core.List.{List}
use mathlib.Core.Path.{ap, refl, subst, sym, ◌∙◌, ◌≡◌}
use Prim.Native.Nat.{ℕ, ◌≤◌}
use native.Mathlib.Omega.{arith}
use Rattle.network_by.specs.Calls.{counted_judgement, network_answer_to, RecordCounted, RecordCountedFromC}
use Rattle.network_by.specs.Counted.{asked_for, Asking, judged_by, left_by, NetworkAnswer, Tile}
use Rattle.network_by.specs.ReadAnswer.{CountedReadBack, network_length}
use Rattle.network_by.proofs.Counts.{ground_asked, none_asked}
use Rattle.network_record.specs.ReadAnswer.{length_of, ReadBack}
use Rattle.ground.specs.Judge.{Judged}
use Rattle.std.specs.Prelude.{Err, Ok}
use Rattle.network_record.proofs.Answers.{answer_read, lengths_short}
use Rattle.network_record.specs.RecordCall.{judgement, left_record_by}
use Rattle.network_by.specs.declared.NetworkRefusal.TheVariants.{BadCount, BadManner, Ground}

-- a tile's answer is read as its judgement is
tile_length : (j : Judged) → network_length (Tile j) ≡ length_of j
tile_length (Ok size) = refl
tile_length (Err why) = refl

read_tile : (j : Judged) → ReadBack j → CountedReadBack (Tile j)
read_tile (Ok size) back = record { number_back = back.number_back; place_back = back.place_back; length_back = back.length_back }
read_tile (Err why) back = record { number_back = back.number_back; place_back = back.place_back; length_back = back.length_back }

module _ (count manner : ℕ) (ground lent : List ℕ) where
  short : (a : Asking) → network_length (judged_by a (judgement ground lent)) ≤ 61468
  short (Err BadCount) = omega arith
  short (Err BadManner) = omega arith
  short (Err (Ground why)) = omega arith
  short (Ok a) = rw (tile_length (judgement ground lent)) (lengths_short ground lent)

  module _ {r : NetworkAnswer} {after : List ℕ} (o : RecordCounted count manner ground lent r after) where
    pub counted_packable : network_length r ≤ 61468
    counted_packable = subst (λ (x : NetworkAnswer). network_length x ≤ 61468) (sym o.answer) (short (asked_for count manner))

    pub counted_packed : {n : ℕ} → n ≡ network_answer_to r → RecordCountedFromC count manner ground lent n after
    counted_packed e =
        record {
          answer = e ∙ ap network_answer_to o.answer;
          lists = o.lists ∙ ap (left_by (asked_for count manner) (λ N M. left_record_by N M ground lent) lent) o.answer;
        }

  -- what is read from the answer for C
  pub counted_read : CountedReadBack (counted_judgement count manner ground lent)
  counted_read = go (asked_for count manner) refl
    where
      go : (a : Asking) → asked_for count manner ≡ a → CountedReadBack (judged_by a (judgement ground lent))
      go (Err BadCount) e = record { number_back = refl; place_back = refl; length_back = refl }
      go (Err BadManner) e = record { number_back = refl; place_back = refl; length_back = refl }
      go (Err (Ground why)) e = absurd (let n = sym (ap ground_asked e) ∙ none_asked count manner in omega (arith, n))
      go (Ok a) e = read_tile (judgement ground lent) (answer_read ground lent)
