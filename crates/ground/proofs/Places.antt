-- A refused record's place is a cell of a tile, below 4,096: no cell is looked at before the size is allowed. A record is never refused
-- with 3 where the outputs have room for 4,096 cells, and lists are never refused with 7.
-- Assumes nothing.
use mathlib.Core.Bool.{Bool, false, false≢true, true}
use mathlib.Core.List.{List}
use mathlib.Core.Path.{refl, sym, ◌∙◌, ◌≡◌}
use Prim.Native.Nat.{ℕ, ◌<◌, ◌≤◌}
use native.Mathlib.Omega.{arith}
use lib.Dec.{leb, ltb}
use lib.ListN.{length}
use borrow.Author.Tests.{leb-false}
use Rattle.ground.proofs.SizedLists.{sized}
use Rattle.ground.specs.Judge.{bad_height, bad_mark, judge, judge_cells, judge_lists, judge_marks, judge_outlet, judge_record, judge_sized, must}
use Rattle.ground.specs.Judge.{number_of, place_of, size_allowed}
use Rattle.ground.specs.Record.{ground_in, height_in, width_in}
use Rattle.kinds.specs.Kinds.{as_cell}
use Rattle.lists.specs.Find.{find}
use Rattle.rules.specs.Ground.{cells_of, Ground, is_outlet}
use Rattle.ground.specs.declared.Refusal.{Refusal}
use Rattle.ground.specs.declared.Refusal.TheVariants.{BadDistance, BadHeight, BadLength, BadMark, BadSize, NoOutlet, NoRoom}
use Rattle.ground.specs.Judge.{Judged, Accepted, Refused}

-- what holds of a test's refusal where it fails, and of what comes next where it holds, holds of the judgement by that test first
must-has : (P : Judged → Type 0) (t : Bool) (why : Refusal) (next : Judged) → (t ≡ false → P (Refused why)) → (t ≡ true → P next)
    → P (must t why next)
must-has P true why next a b = b refl
must-has P false why next a b = a refl

module _ (P : Judged → Type 0) (long right room : Bool) (g : Ground) (size : P (Refused BadSize)) (len : P (Refused BadLength))
    (distance : right ≡ false → P (Refused BadDistance)) (short : room ≡ false → cells_of g ≤ 4096 → P (Refused NoRoom))
    (height : (c : ℕ) → c < 4096 → P (Refused (BadHeight (as_cell c)))) (mark : (c : ℕ) → c < 4096 → P (Refused (BadMark (as_cell c))))
    (dry : P (Refused NoOutlet)) (good : P (Accepted g.width g.height)) where
  -- what holds of each refusal that can be given, and of an acceptance, holds of the judgement
  judge-has : P (judge long right room g)
  unfolding judge judge_cells judge_marks judge_outlet
  judge-has =
      let n = cells_of g in
      let h = find (bad_height g.heights) n in
      let m = find (bad_mark g.marks) n in
      must-has P (size_allowed g.width g.height) BadSize _ (λ e. size)
      (λ e. let few : n ≤ 4096 = (sized g.width g.height e).few in
      must-has P long BadLength _ (λ e. len)
      (λ e. must-has P right BadDistance _ distance
      (λ e. must-has P room NoRoom _ (λ e. short e few)
      (λ e. must-has P (leb n h) (BadHeight (as_cell h)) (judge_marks g) (λ e. height h (let l : h < n = leb-false n h e in omega arith))
      (λ e. must-has P (leb n m) (BadMark (as_cell m)) (judge_outlet g) (λ e. mark m (let l : m < n = leb-false n m e in omega arith))
      (λ e. must-has P (ltb (find (is_outlet g.marks) n) n) NoOutlet (Accepted g.width g.height) (λ e. dry) (λ e. good)))))))

-- a place is below 4,096
pub judge_record-place : (room : ℕ → Bool) (s : List ℕ) → place_of (judge_record room s) < 4096
unfolding judge_record
judge_record-place room s =
    must-has (λ j. place_of j < 4096) (leb 16 (length s)) BadLength (judge_sized room s (width_in s) (height_in s)) (λ e. omega arith)
    (λ e. judge-has (λ j. place_of j < 4096) _ _ _ (ground_in s (width_in s) (height_in s)) (omega arith) (omega arith) (omega arith)
    (λ e f. omega arith) (λ c h. h) (λ c h. h) (omega arith) (omega arith))

-- enough room for 4,096 cells is never too little
pub judge_record_room : (room : ℕ → Bool) (s : List ℕ) → ((n : ℕ) → n ≤ 4096 → room n ≡ true) → number_of (judge_record room s) ≡ 3 → ⊥
unfolding judge_record
judge_record_room room s enough =
    must-has (λ j. number_of j ≡ 3 → ⊥) (leb 16 (length s)) BadLength (judge_sized room s (width_in s) (height_in s)) (λ e f. omega arith)
    (λ e. judge-has (λ j. number_of j ≡ 3 → ⊥) _ _ _ (ground_in s (width_in s) (height_in s)) (λ f. omega arith) (λ f. omega arith)
    (λ f. omega arith) (λ e h f. false≢true (sym e ∙ enough _ h)) (λ c h f. omega arith) (λ c h f. omega arith) (λ f. omega arith)
    (λ f. omega arith))

-- lists have no distances that could be wrong
pub judge_lists_number : (room : ℕ → Bool) (g : Ground) → number_of (judge_lists room g) ≡ 7 → ⊥
unfolding judge_lists
judge_lists_number room g =
    judge-has (λ j. number_of j ≡ 7 → ⊥) _ true _ g (λ f. omega arith) (λ f. omega arith) (λ e f. false≢true (sym e)) (λ e h f. omega arith)
    (λ c h f. omega arith) (λ c h f. omega arith) (λ f. omega arith) (λ f. omega arith)
