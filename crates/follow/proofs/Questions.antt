-- Every trace can be asked: the bytes of a question are read as its cell, its budget and its list.
-- Assumes nothing.
use mathlib.Core.Bool.{true}
use mathlib.Core.List.{[], append-nil, List, ◌++◌}
use mathlib.Core.Path.{ap, refl, sym, ◌∙◌, ◌≡◌}
use Prim.Native.Nat.{ℕ, ◌%◌, ◌*◌, ◌+◌, ◌-◌, ◌/◌, ◌<◌}
use native.Mathlib.Omega.{arith}
use lib.ListN.{length}
use borrow.Author.Tests.{eq-eqb, le-leb}
use Rattle.follow.proofs.Input.{asked_text}
use Rattle.follow.specs.Follow.{asked, follow_text, has_list, question_of, traced_text}
use Rattle.lists.specs.Lists.{Below}
use Rattle.sections.proofs.Numbers.{number_at-bytes_of, number_at_skip}
use Rattle.sections.proofs.Sections.{length-section_of, numbers_at-section_of}
use Rattle.sections.specs.LittleEndian.{bytes_of, number_at, numbers_at, section_of}
use Rattle.rules.specs.Trace.{trace}

module _ (cell budget : ℕ) (r : List ℕ) where
  length_question : length (question_of cell budget r) ≡ 8 + 2 * length r
  length_question = omega (arith, length-section_of 2 r)

  has_list_lem : has_list (length (question_of cell budget r)) ≡ true
  has_list_lem =
      let l = length_question in
      let n = length (question_of cell budget r) in
      rw (le-leb 8 n (omega arith), eq-eqb (n % 2) 0 (omega arith))

  pub question_asks : cell < 4294967296 → budget < 4294967296 → Below 65536 r → follow_text (question_of cell budget r) ≡ traced_text (trace r cell budget)
  question_asks h k b =
      let s = question_of cell budget r in
      let l = length_question in
      let n : (length s - 8) / 2 ≡ length r = omega arith in
      let c : number_at 4 s 0 ≡ cell = number_at-bytes_of 4 cell (bytes_of 4 budget ++ section_of 2 r) h in
      let d : number_at 4 s 4 ≡ budget =
      number_at_skip 4 (bytes_of 4 cell) (bytes_of 4 budget ++ section_of 2 r) 0 ∙ number_at-bytes_of 4 budget (section_of 2 r) k in
      let p = bytes_of 4 cell ++ bytes_of 4 budget in
      let f : numbers_at 2 s 8 (length r) ≡ r =
      ap (λ (q : List ℕ). numbers_at 2 (p ++ q) 8 (length r)) (sym (append-nil (section_of 2 r)))
      ∙ numbers_at-section_of 2 p r [] 8 (length r) refl refl b in
      let e : asked s ≡ trace r cell budget = rw (n, f, c, d) in
      asked_text s has_list_lem ∙ ap traced_text e
