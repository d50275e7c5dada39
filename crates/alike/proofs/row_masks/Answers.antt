-- `alike::row_masks` meets its contract: the cells of a row have the same three columns.
-- Assumes nothing.
use mathlib.Core.Path.{ap, ◌∙◌, ◌≡◌}
use Prim.Native.Nat.{◌+◌, ◌-◌}
use native.Mathlib.Omega.{arith}
use Rattle.alike.proofs.Columns.{row_columns}
use Rattle.alike.proofs.Puts.{puts_same}
use Rattle.alike.specs.Columns.{in_column}
use Rattle.alike.specs.NeighbourMasks.{neighbour_mask}
use Rattle.alike.proofs.row_masks.Goals as goal

pub returns : goal.returns
returns c =
    let a = c.args in
    puts_same (λ k. in_column a.w c.column-left.result (c.bits_if.result + c.bits_if-2.result) c.column-right.result (k - a.b))
    (neighbour_mask a.neighbours a.w a.n)
    (λ k h l. let e : a.b + (k - a.b) ≡ k = omega arith in
    rw (c.column-left.ensures.0, c.bits_if.ensures.0, c.bits_if-2.ensures.0, c.column-right.ensures.0)
    (row_columns c.requires.0.rows a.b c.requires.2 c.requires.1 a.neighbours (k - a.b) (omega arith)
    ∙ ap (neighbour_mask a.neighbours a.w a.n) e))
    c.store_row.ensures
