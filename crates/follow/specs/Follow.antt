-- The program `follow`: what it prints, for every input.
-- Assumes nothing.
use Rattle.std.specs.Prelude.{Bool, cond, ◌&&◌, [], List, ◌++◌, ◌∷◌, ℕ, ◌%◌, ◌-◌, ◌/◌, eqb, leb, length}
use Rattle.sections.specs.LittleEndian.{bytes_of, number_at, numbers_at, section_of}
use Rattle.rules.specs.Trace.{reached, refused, stopped, trace, Traced}
use Rattle.text.specs.Text.{decimal, line, refused_text}

-- a question: a cell (4 bytes), a budget (4 bytes) and a list of receivers (2 bytes each), little-endian and without gaps
abbrev pub question_of : (cell budget : ℕ) → List ℕ → List ℕ
question_of cell budget receivers = bytes_of 4 cell ++ (bytes_of 4 budget ++ section_of 2 receivers)

-- the bytes of the longest question: cell, budget and 4,096 receivers
abbrev pub longest_question : ℕ
longest_question = 8200

-- an input of n bytes has a list: cell and budget are there, and no half entry stands at the end
abbrev pub has_list : ℕ → Bool
has_list n = leb 8 n && eqb (n % 2) 0

-- the trace that is asked for
abbrev pub asked : List ℕ → Traced
asked s = trace (numbers_at 2 s 8 ((length s - 8) / 2)) (number_at 4 s 0) (number_at 4 s 4)

-- the words "outlet" and "stopped"
abbrev pub outlet_word : List ℕ
outlet_word = 111 ∷ 117 ∷ 116 ∷ 108 ∷ 101 ∷ 116 ∷ []

abbrev pub stopped_word : List ℕ
stopped_word = 115 ∷ 116 ∷ 111 ∷ 112 ∷ 112 ∷ 101 ∷ 100 ∷ []

-- the line of an answer: the cell and the steps taken, or number and place of a refusal
abbrev pub traced_text : Traced → List ℕ
traced_text (reached outlet steps) = line outlet_word (decimal outlet ∷ decimal steps ∷ [])
traced_text (stopped cell steps) = line stopped_word (decimal cell ∷ decimal steps ∷ [])
traced_text (refused number place) = refused_text number place

-- an input without a list is refused with 2, place 0, as a list of a wrong length is
unfoldable pub follow_text : List ℕ → List ℕ
follow_text s = cond (has_list (length s)) (traced_text (asked s)) (refused_text 2 0)
