-- The steps of a judgement, for the code: what was found so far decides, in the table's order.
-- Assumes nothing.
use mathlib.Core.Bool.{Bool, false, true}
use mathlib.Core.List.{[]}
use mathlib.Core.Logic.{inl, inr, ◌⊎◌}
use mathlib.Core.Path.{refl, subst, sym, ◌∙◌, ◌≡◌}
use Rattle.std.specs.Prelude.{IsSome, MatchOption, None, Option, Some}
use Prim.Native.Nat.{ℕ, ◌<◌, ◌≤◌}
use native.Mathlib.Omega.{arith}
use lib.Dec.{eqb, ltb}
use lib.ListN.{length}
use borrow.Author.Tests.{eq-eqb, le-leb, le-ltb, lt-leb, lt-ltb, ne_eqb}
use Rattle.ground.specs.Judge.{Accepted, bad_height, bad_mark, judge, judge_cells, judge_marks, judge_outlet, Judged, Refused, size_allowed}
use Rattle.ground.specs.Record.{ground_of_lists}
use Rattle.kinds.specs.Kinds.{as_cell}
use Rattle.lists.proofs.Greatest.{greatest_bounds, greatest_found, greatest-none}
use Rattle.lists.proofs.Tests.{lt_or_ge}
use Rattle.lists.specs.Find.{find}
use Rattle.lists.specs.Greatest.{greatest}
use Rattle.lists.specs.Lists.{at}
use Rattle.rules.specs.Ground.{cells_of, Ground, is_outlet}
use Rattle.ground.specs.declared.Refusal.TheVariants.{BadDistance, BadHeight, BadLength, BadMark, BadSize, NoOutlet, NoRoom}

-- what a search for the first of n cells says of its answer
abbrev pub Searched : (ℕ → Bool) → ℕ → Option ℕ → Type 0
Searched p n r = MatchOption r (find p n ≡ n) (λ k. (k ≡ find p n) × (k < n))

-- one that must find a cell finds it
pub finds : (p : ℕ → Bool) (n : ℕ) (r : Option ℕ) → Searched p n r → find p n < n → IsSome r
finds p n None e h = absurd (omega arith)
finds p n (Some k) e h = refl

pub found : (p : ℕ → Bool) (n : ℕ) {r : Option ℕ} {k : ℕ} → r ≡ Some k → Searched p n r → (k ≡ find p n) × (k < n)
found p n e m = subst (Searched p n) e m

-- of marks that are 0 or 1, the outlets are those above 0
outlet_above : (mark : ℕ) → mark ≤ 1 → eqb mark 1 ≡ ltb 0 mark
outlet_above mark h = go (lt_or_ge 0 mark)
  where
    go : (0 < mark) ⊎ (mark ≤ 0) → eqb mark 1 ≡ ltb 0 mark
    go (inl l) = eq-eqb mark 1 (omega arith) ∙ sym (lt-ltb 0 mark l)
    go (inr l) = ne_eqb mark 1 (λ e. omega arith) ∙ sym (le-ltb 0 mark l)

-- the marks: the greatest decides, and `bad` is what the search for a bad one gave
module _ (g : Ground) (full : length g.marks ≡ cells_of g) where
  pub mark_found : 1 < greatest g.marks → find (bad_mark g.marks) (cells_of g) < cells_of g
  mark_found h = greatest_found (bad_mark g.marks) g.marks 1 full (λ k m. refl) h

  pub marks_bad : {bad : ℕ} → bad ≡ find (bad_mark g.marks) (cells_of g) → 1 < greatest g.marks
      → Refused (BadMark (as_cell bad)) ≡ judge_marks g
  unfolding judge_marks
  marks_bad {bad} e h =
      rw (← e, lt-leb (cells_of g) bad (rw e (mark_found h)))

  -- where it is at most 1, no mark is bad, and the outlets are the marks above 0
  none_bad : greatest g.marks ≤ 1 → find (bad_mark g.marks) (cells_of g) ≡ cells_of g
  none_bad h = greatest-none (bad_mark g.marks) g.marks 1 full (λ k m. refl) h

  outlets-above : greatest g.marks ≤ 1 → (k : ℕ) → k < cells_of g → is_outlet g.marks k ≡ ltb 0 (at g.marks k)
  outlets-above h k m = outlet_above (at g.marks k) (greatest_bounds g.marks 1 h k (rw full m))

  pub marks_without_outlet : greatest g.marks ≤ 0 → Refused NoOutlet ≡ judge_marks g
  unfolding judge_marks judge_outlet
  marks_without_outlet h =
      let n = cells_of g in
      let o = greatest-none (is_outlet g.marks) g.marks 0 full (outlets-above (omega arith)) h in
      rw (none_bad (omega arith), o, le-leb n n (omega arith), le-ltb n n (omega arith))

  pub marks_good : greatest g.marks ≡ 1 → Accepted g.width g.height ≡ judge_marks g
  unfolding judge_marks judge_outlet
  marks_good h =
      let n = cells_of g in
      let o = greatest_found (is_outlet g.marks) g.marks 0 full (outlets-above (omega arith)) (omega arith) in
      rw (none_bad (omega arith), le-leb n n (omega arith), lt-ltb (find (is_outlet g.marks) n) n o)

-- heights and water have no part in it
marks_decide : (g : Ground) → judge_marks (ground_of_lists g.width g.height [] g.marks []) ≡ judge_marks g
unfolding judge_marks judge_outlet
marks_decide g = refl

-- the cells: `bad` is what the search for a bad height gave
module _ (g : Ground) {bad : ℕ} (e : bad ≡ find (bad_height g.heights) (cells_of g)) where
  pub heights_bad : bad < cells_of g → Refused (BadHeight (as_cell bad)) ≡ judge_cells g
  unfolding judge_cells
  heights_bad l = rw (← e, lt-leb (cells_of g) bad l)

  pub heights_good : {r : Judged} → cells_of g ≤ bad → r ≡ judge_marks (ground_of_lists g.width g.height [] g.marks [])
      → r ≡ judge_cells g
  unfolding judge_cells
  heights_good {r} l o = rw (← e, le-leb (cells_of g) bad l) (o ∙ marks_decide g)

-- water has no part in it
pub cells_decide : (g : Ground) → judge_cells (ground_of_lists g.width g.height g.heights g.marks []) ≡ judge_cells g
unfolding judge_cells judge_marks judge_outlet
cells_decide g = refl

-- the table's order
module _ (long right room : Bool) (g : Ground) where
  pub refused_size : size_allowed g.width g.height ≡ false → Refused BadSize ≡ judge long right room g
  unfolding judge
  refused_size a = rw a

  module _ (a : size_allowed g.width g.height ≡ true) where
    pub refused_length : long ≡ false → Refused BadLength ≡ judge long right room g
    unfolding judge
    refused_length b = rw (a, b)

    pub refused_distance : long ≡ true → right ≡ false → Refused BadDistance ≡ judge long right room g
    unfolding judge
    refused_distance b c = rw (a, b, c)

    pub refused_room : long ≡ true → right ≡ true → room ≡ false → Refused NoRoom ≡ judge long right room g
    unfolding judge
    refused_room b c d = rw (a, b, c, d)

    pub judged_cells : {r : Judged} → long ≡ true → right ≡ true → room ≡ true → r ≡ judge_cells g → r ≡ judge long right room g
    unfolding judge
    judged_cells b c d e = rw (a, b, c, d) e
