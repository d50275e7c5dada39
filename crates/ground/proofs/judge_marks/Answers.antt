-- `ground::judge_marks` meets its contract: the greatest mark decides, in the order of the table, and the search gives the place.
-- Assumes nothing.
use mathlib.Core.List.{[]}
use mathlib.Core.Path.{sym, ◌∙◌, ◌≡◌}
use Prim.Native.Nat.{◌*◌, ◌<◌, ◌≤◌}
use native.Mathlib.Omega.{arith}
use borrow.Author.Rules.{rules}
use borrow.Author.Tests.{eqb-false, eqb-true}
use Rattle.grid.proofs.Rows.{rows_fit}
use Rattle.ground.proofs.Judging.{finds, found, mark_found, marks_bad, marks_good, marks_without_outlet, Searched}
use Rattle.ground.specs.Judge.{bad_mark}
use Rattle.ground.specs.Record.{ground_of_lists}
use Rattle.lists.specs.Find.{find}
use Rattle.rules.specs.Ground.{Ground}
use Rattle.ground.proofs.judge_marks.Goals as goal
use Rattle.ground.proofs.judge_marks.Goals.{After-first, After-unwrap-bad, Start}

-- the ground of the marks
abbrev ground : Start → Ground
ground c = let a = c.args in ground_of_lists a.size.width a.size.height [] a.marks.now []

-- what the search says of its answer
searched : (c : After-first) → let a = c.args in Searched (bad_mark a.marks.now) (a.size.height * a.size.width) c.first.result
searched c = c.first.ensures (bad_mark c.args.marks.now) (λ k l y e. search rules)

found-bad : (c : After-unwrap-bad)
    → let a = c.args in
    let n = a.size.height * a.size.width in
    (c.unwrap-bad.result ≡ find (bad_mark a.marks.now) n) × (c.unwrap-bad.result < n)
found-bad c =
    let a = c.args in
    found (bad_mark a.marks.now) (a.size.height * a.size.width) c.unwrap-bad.ensures (searched (goal.at.After-unwrap-bad c).After-first)

pub unwrap-bad-requires : goal.unwrap-bad-requires
unwrap-bad-requires c =
    let a = c.args in
    let high = rw c.greatest_mark-most.ensures at c.if-most-gt1.true in
    finds (bad_mark a.marks.now) (a.size.height * a.size.width) c.first.result (searched (goal.at.unwrap-bad-requires c).After-first)
    (mark_found (ground (goal.at.unwrap-bad-requires c).Start) c.requires.2 high)

pub overflow_cast-result : goal.overflow_cast-result
overflow_cast-result c =
    let n = rows_fit c.args.size.height c.args.size.width c.requires.1 c.requires.0 in
    let f = (found-bad (goal.at.overflow_cast-result c).After-unwrap-bad).1 in
    omega arith

pub returns-then-most-gt1 : goal.returns-then-most-gt1
returns-then-most-gt1 c =
    let high = rw c.greatest_mark-most.ensures at c.if-most-gt1.true in
    marks_bad (ground (goal.at.returns-then-most-gt1 c).Start) c.requires.2 (found-bad (goal.at.returns-then-most-gt1 c).After-unwrap-bad).0 high

pub returns-then-is_outlet : goal.returns-then-is_outlet
returns-then-is_outlet c =
    marks_good (ground (goal.at.returns-then-is_outlet c).Start) c.requires.2
    (sym c.greatest_mark-most.ensures ∙ eqb-true c.greatest_mark-most.result 1 (sym c.is_outlet.ensures ∙ c.if-is_outlet.true))

pub returns-else-is_outlet : goal.returns-else-is_outlet
returns-else-is_outlet c =
    let no = eqb-false c.greatest_mark-most.result 1 (sym c.is_outlet.ensures ∙ c.if-is_outlet.false) in
    let none : c.greatest_mark-most.result ≤ 0 = omega arith in
    marks_without_outlet (ground (goal.at.returns-else-is_outlet c).Start) c.requires.2
    (rw c.greatest_mark-most.ensures at none)
