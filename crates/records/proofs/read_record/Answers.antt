-- `records::read_record` meets its contract: only an accepted record is read, and all of it.
-- Assumes nothing.
use mathlib.Core.Path.{sym, ◌∙◌, ◌≡◌}
use Prim.Native.Nat.{min, ◌*◌, ◌+◌}
use native.Mathlib.Omega.{arith}
use lib.ListN.{length}
use borrow.Author.Tests.{leb-true}
use Rattle.std.specs.Prelude.{Ok}
use Rattle.ground.proofs.Acceptance.{record_accepted}
use Rattle.ground.specs.Accepted.{AcceptedRecord}
use Rattle.ground.specs.Record.{ground_of_record}
use Rattle.records.proofs.Reading.{heights_read, marks_read, water_read}
use Rattle.ground.specs.Rooms.{lists_hold}
use Rattle.records.specs.Calls.{read_judgement, three_lists}
use Rattle.rules.specs.Ground.{cells_of}
use Rattle.records.proofs.read_record.Goals as goal
use Rattle.records.proofs.read_record.Goals.{After-cells}

-- the answer is the judgement, which is an acceptance
answered : (c : After-cells)
    → let a = c.args in
    Ok c.in_ok-size.size ≡ read_judgement a.bytes.now (three_lists a.heights.now a.marks.now a.water.now)
answered c = sym c.in_ok-size.was ∙ rw (c.min-2.ensures, c.min.ensures) at c.judge_record.ensures

-- what it says of the record
accepted : (c : After-cells)
    → let a = c.args in
    AcceptedRecord (lists_hold a.heights.now a.marks.now a.water.now) a.bytes.now c.in_ok-size.size.width c.in_ok-size.size.height
accepted c = let a = c.args in record_accepted (lists_hold a.heights.now a.marks.now a.water.now) a.bytes.now (sym (answered c))

count : (c : After-cells) → c.cells.result ≡ cells_of (ground_of_record c.args.bytes.now)
count c = let f = accepted c in c.cells.ensures ∙ rw (f.width_is, f.height_is)

pub read_cells-requires : goal.read_cells-requires
read_cells-requires c =
    let a = c.args in
    let f = accepted (goal.at.read_cells-requires c).After-cells in
    let n = count (goal.at.read_cells-requires c).After-cells in
    let shortest = min (length a.heights.now) (min (length a.marks.now) (length a.water.now)) in
    let r = leb-true (1 * cells_of (ground_of_record a.bytes.now) + 0) shortest f.roomy in
    let l = f.long in
    (omega arith, omega arith, omega arith, omega arith)

pub returns : goal.returns
returns c =
    let a = c.args in
    let n = count (goal.at.returns c).After-cells in
    let heights = heights_read a.bytes.now n a.heights.now c.read_cells.ensures.heights_after in
    let marks = marks_read a.bytes.now n a.marks.now c.read_cells.ensures.marks_after in
    let water = water_read a.bytes.now n a.water.now c.read_cells.ensures.water_after in
    record { answer = answered (goal.at.returns c).After-cells; lists = λ i. three_lists (heights i) (marks i) (water i) }
