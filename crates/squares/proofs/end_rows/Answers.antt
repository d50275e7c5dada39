-- `squares::end_rows` meets its contract.
-- Before each row the ends of all rows before are 13. A turn leads to the end of the next row: between the two none ends.
-- Assumes nothing.
use Rattle.squares.proofs.RowEnds.{ending_row}
use Rattle.squares.proofs.end_rows.Goals as goal

pub loop-row-preserved : goal.loop-row-preserved
loop-row-preserved c = ending_row c.requires.0.rows c.loop-row.row c.requires.1 c.loop-row-test.true c.loop-row.invariant
