-- `ground::judge_cells_of_lists` meets its contract: what the search gave decides, and then the marks.
-- Assumes nothing.
use mathlib.Core.List.{[]}
use mathlib.Core.Path.{sym, ◌≡◌}
use Prim.Native.Nat.{◌*◌, ◌<◌}
use native.Mathlib.Omega.{arith}
use borrow.Author.Rules.{rules}
use Rattle.grid.proofs.Rows.{rows_fit}
use Rattle.ground.proofs.Judging.{heights_bad, heights_good}
use Rattle.ground.specs.Judge.{bad_height}
use Rattle.ground.specs.Record.{ground_of_lists}
use Rattle.lists.specs.Find.{find}
use Rattle.ground.proofs.judge_cells_of_lists.Goals as goal
use Rattle.ground.proofs.judge_cells_of_lists.Goals.{In-Some}

-- what was found is the first bad height
found-bad : (c : In-Some)
    → let a = c.args in
    let n = a.size.height * a.size.width in
    (c.in-Some.bad ≡ find (bad_height a.heights.now) n) × (c.in-Some.bad < n)
found-bad c = c.in-Some.ensures (bad_height c.args.heights.now) (λ k l y e. search rules)

pub overflow_cast-result : goal.overflow_cast-result
overflow_cast-result c =
    let n = rows_fit c.args.size.height c.args.size.width c.requires.1 c.requires.0 in
    let f = (found-bad (goal.at.overflow_cast-result c).In-Some).1 in
    omega arith

pub returns-in-Some : goal.returns-in-Some
returns-in-Some c =
    let a = c.args in
    let f = found-bad (goal.at.returns-in-Some c).In-Some in
    heights_bad (ground_of_lists a.size.width a.size.height a.heights.now a.marks.now []) f.0 f.1

pub returns-in-None : goal.returns-in-None
returns-in-None c =
    let a = c.args in
    let none = c.in-None.ensures (bad_height c.args.heights.now) (λ k l y e. search rules) in
    heights_good (ground_of_lists a.size.width a.size.height a.heights.now a.marks.now []) (sym none) (omega arith) c.judge_marks.ensures
