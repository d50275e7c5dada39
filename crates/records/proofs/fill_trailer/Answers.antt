-- `records::fill_trailer` meets its contract: five numbers, one after the other.
-- Assumes nothing.
use mathlib.Core.Path.{◌∙◌}
use Prim.Native.Nat.{◌≤◌}
use native.Mathlib.Omega.{arith}
use Rattle.grid.proofs.Rows.{rows_fit}
use Rattle.lists.proofs.Stored.{stored-start}
use Rattle.records.proofs.Sections.{trailer_done}
use Rattle.sections.specs.LittleEndian.{bytes_of}
use Rattle.records.proofs.fill_trailer.Goals as goal
use Rattle.records.proofs.fill_trailer.Goals.{After-cells-n}

-- there are at most 4,096 cells, so the distances fit
count_few : (c : After-cells-n) → c.cells-n.result ≤ 4096
count_few c =
    rw c.cells-n.ensures (rows_fit c.args.height c.args.width c.requires.2 c.requires.1)

pub overflow_cast-n : goal.overflow_cast-n
overflow_cast-n c = omega (arith, count_few (goal.at.overflow_cast-n c).After-cells-n)

pub overflow_mul-n : goal.overflow_mul-n
overflow_mul-n c = omega (arith, count_few (goal.at.overflow_mul-n c).After-cells-n)

pub overflow_mul-n-2 : goal.overflow_mul-n-2
overflow_mul-n-2 c =
    omega (arith, count_few (goal.at.overflow_mul-n-2 c).After-cells-n)

pub overflow_mul-n-3 : goal.overflow_mul-n-3
overflow_mul-n-3 c =
    omega (arith, count_few (goal.at.overflow_mul-n-3 c).After-cells-n)

pub returns : goal.returns
returns c =
    let n = c.cells-n.ensures in
    trailer_done c.args.width c.args.height c.args.part.now c.requires.0
    (c.write.ensures ∙ stored-start (bytes_of 2 c.args.width) c.args.part.now)
    c.write-2.ensures
    (rw n at c.write-3.ensures)
    (rw n at c.write-4.ensures)
    (rw n at c.write-5.ensures)
