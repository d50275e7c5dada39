-- `squares::end_rows` meets its contract.
-- Before each row the ends of all rows before are 13. A turn leads to the end of the next row: between the two none ends.
-- Assumes nothing.
use Prim.Native.Nat.{◌*◌, ◌+◌, ◌-◌}
use Rattle.squares.proofs.RowEnds.{Ending}
use Rattle.squares.proofs.end_rows.Given as goal

abbrev pub invariant-loop-row : goal.invariant-loop-row
invariant-loop-row l = Ending l.w l.n l.initial.sq l.sq (l.row * l.w + l.w - 1)
