-- `ground::judge_cells_of_record` meets its contract: the greatest height says whether one is bad, the search gives the place, and
-- else the marks decide, a stretch of the record.
-- Assumes nothing.
use mathlib.Core.Path.{sym, ◌∙◌, ◌≡◌}
use Prim.Native.Nat.{◌*◌, ◌-◌, ◌<◌}
use native.Mathlib.Omega.{arith}
use borrow.Author.Rules.{rules}
use Rattle.grid.proofs.Rows.{rows_fit}
use Rattle.ground.proofs.Judging.{finds, found, heights_bad, heights_good, Searched}
use Rattle.ground.proofs.RecordCells.{bad_in_record_found, no_bad_height, some_bad_height}
use Rattle.ground.specs.Record.{bad_bits, ground_in, lifts_in}
use Rattle.lists.specs.Find.{find}
use Rattle.lists.specs.Greatest.{greatest}
use Rattle.ground.proofs.judge_cells_of_record.Goals as goal
use Rattle.ground.proofs.judge_cells_of_record.Goals.{After-first, After-greatest_height_of_record-is_high, After-unwrap-bad, Then-is_high}

-- what the pass gave is the greatest height of all N cells
greatest-of-all : (c : After-greatest_height_of_record-is_high)
    → let a = c.args in
    c.greatest_height_of_record-is_high.result ≡ greatest (lifts_in a.bytes.now (a.size.height * a.size.width))
greatest-of-all c = rw c.cells-n.ensures at c.greatest_height_of_record-is_high.ensures

-- where it is too high, some height is bad
some-bad : (c : Then-is_high)
    → let a = c.args in
    let n = a.size.height * a.size.width in
    find (bad_bits a.bytes.now) n < n
some-bad c =
    let a = c.args in
    let n = a.size.height * a.size.width in
    let above = rw (greatest-of-all (goal.at.Then-is_high c).After-greatest_height_of_record-is_high) at c.if-is_high.true in
    rw (bad_in_record_found a.bytes.now n)
    (some_bad_height a.bytes.now n (λ k l. omega (arith, c.type_inv.bytes k)) (omega arith) above)

-- what the search says of its answer
searched : (c : After-first) → let a = c.args in Searched (bad_bits a.bytes.now) (a.size.height * a.size.width) c.first.result
searched c = c.first.ensures (bad_bits c.args.bytes.now) (λ k l y e. search rules)

found-bad : (c : After-unwrap-bad)
    → let a = c.args in
    let n = a.size.height * a.size.width in
    (c.unwrap-bad.result ≡ find (bad_bits a.bytes.now) n) × (c.unwrap-bad.result < n)
found-bad c =
    let a = c.args in
    found (bad_bits a.bytes.now) (a.size.height * a.size.width) c.unwrap-bad.ensures (searched (goal.at.After-unwrap-bad c).After-first)

pub unwrap-bad-requires : goal.unwrap-bad-requires
unwrap-bad-requires c =
    let a = c.args in
    finds (bad_bits a.bytes.now) (a.size.height * a.size.width) c.first.result (searched (goal.at.unwrap-bad-requires c).After-first)
    (some-bad (goal.at.unwrap-bad-requires c).Then-is_high)

pub overflow_cast-result : goal.overflow_cast-result
overflow_cast-result c =
    let n = rows_fit c.args.size.height c.args.size.width c.requires.1 c.requires.0 in
    let f = (found-bad (goal.at.overflow_cast-result c).After-unwrap-bad).1 in
    omega arith

pub returns-then-is_high : goal.returns-then-is_high
returns-then-is_high c =
    let bytes = c.args.bytes.now in
    let size = c.args.size in
    let f = found-bad (goal.at.returns-then-is_high c).After-unwrap-bad in
    heights_bad (ground_in bytes size.width size.height) (f.0 ∙ bad_in_record_found bytes (size.height * size.width)) f.1

pub returns : goal.returns
returns c =
    let bytes = c.args.bytes.now in
    let size = c.args.size in
    let n = size.height * size.width in
    let within = rw (greatest-of-all (goal.at.returns c).After-greatest_height_of_record-is_high) at c.if-is_high.false in
    let none = no_bad_height bytes n (λ k l. omega (arith, c.type_inv.bytes k)) (omega arith) within in
    let w : 5 * n - 4 * n ≡ n = omega arith in
    heights_good (ground_in bytes size.width size.height) (sym none) (omega arith)
    (rw (c.cells-n.ensures, w) at c.judge_marks.ensures)
