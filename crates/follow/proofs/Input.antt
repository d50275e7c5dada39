-- What is printed for an input, by cases: no question, or one with an answer. And its first 8,201 bytes decide it.
-- Assumes nothing.
use mathlib.Core.Bool.{Bool, false, true, ◌&&◌}
use mathlib.Core.List.{List}
use mathlib.Core.Path.{ap, sym, ◌∙◌, ◌≡◌}
use Prim.Native.Nat.{ℕ, ◌%◌, ◌*◌, ◌+◌, ◌-◌, ◌/◌, ◌<◌, ◌≤◌}
use native.Mathlib.Omega.{arith}
use lib.Dec.{eqb, leb}
use lib.ListN.{length, take}
use borrow.Author.Tests.{eqb-true, le-leb, leb-false, leb-true, lt-leb}
use Rattle.follow.specs.Follow.{asked, follow_text, has_list, longest_question, traced_text}
use Rattle.lists.proofs.Tab.{tab-length}
use Rattle.lists.proofs.Tests.{and_left, and_right, is, isnt, Known, known}
use Rattle.sections.specs.LittleEndian.{number_at, numbers_at}
use Rattle.rules.specs.Trace.{refused, trace}
use Rattle.text.proofs.Inputs.{enough_read}
use Rattle.text.specs.Text.{refused_text}

no_list : (s : List ℕ) → has_list (length s) ≡ false → follow_text s ≡ refused_text 2 0
unfolding follow_text
no_list s e = rw e

pub asked_text : (s : List ℕ) → has_list (length s) ≡ true → follow_text s ≡ traced_text (asked s)
unfolding follow_text
asked_text s e = rw e

-- a list of over 4,096 entries is refused, whatever is asked of it
too_many : (r : List ℕ) (cell budget : ℕ) → 4096 < length r → trace r cell budget ≡ refused 2 0
unfolding trace
too_many r cell budget h = rw (le-leb 1 (length r) (omega arith), lt-leb (length r) 4096 h)

pub too_long : (s : List ℕ) → longest_question < length s → follow_text s ≡ refused_text 2 0
too_long s h = go (known (has_list (length s)))
  where
    go : Known (has_list (length s)) → follow_text s ≡ refused_text 2 0
    go (isnt e) = no_list s e
    go (is e) =
        let even = eqb-true (length s % 2) 0 (and_right (leb 8 (length s)) (eqb (length s % 2) 0) e) in
        let n = (length s - 8) / 2 in
        let l = tab-length (λ k. number_at 2 s (8 + 2 * k)) n in
        asked_text s e ∙ ap traced_text (too_many (numbers_at 2 s 8 n) (number_at 4 s 0) (number_at 4 s 4) (omega arith))

-- a question of at most 4,096 receivers
pub record Question (n : ℕ) : Type 0 where
  pub whole : 8 ≤ n
  pub short : n ≤ longest_question
  pub listed : has_list n ≡ true

pub question : (n : ℕ) → leb n longest_question && has_list n ≡ true → Question n
question n e =
    let l = and_right (leb n longest_question) (has_list n) e in
    record {
      whole = leb-true 8 n (and_left (leb 8 n) (eqb (n % 2) 0) l);
      short = leb-true n longest_question (and_left (leb n longest_question) (has_list n) e);
      listed = l;
    }

-- what is not a question of at most 4,096 receivers
pub refused_text_lem : (s : List ℕ) → leb (length s) longest_question && has_list (length s) ≡ false → follow_text s ≡ refused_text 2 0
refused_text_lem s e = go (known (leb (length s) longest_question))
  where
    go : Known (leb (length s) longest_question) → follow_text s ≡ refused_text 2 0
    go (isnt f) = too_long s (leb-false (length s) longest_question f)
    go (is f) = no_list s (ap (λ (b : Bool). b && has_list (length s)) (sym f) ∙ e)

-- one byte more than the longest question is enough to read
pub follow_enough : (s : List ℕ) → follow_text (take (longest_question + 1) s) ≡ follow_text s
follow_enough = enough_read follow_text longest_question (refused_text 2 0) too_long
