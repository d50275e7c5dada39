-- `ground::greatest::greatest_height_of_record` meets its contract: after `cell` turns `high` is the greatest of the first `cell`
-- heights, lifted.
-- Assumes nothing.
use mathlib.Core.Path.{refl, ◌∙◌, ◌≡◌}
use native.Mathlib.Omega.{arith}
use borrow.Author.Rules.{rules}
use Rattle.ground.proofs.RecordCells.{greatest_lift_next}
use Rattle.ground.proofs.greatest.greatest_height_of_record.Goals as goal

pub loop-cell-init : goal.loop-cell-init
loop-cell-init c = (search rules, refl)

pub loop-cell-preserved : goal.loop-cell-preserved
loop-cell-preserved c =
    let a = c.args in (
      search rules,
      rw (c.max-high.ensures, c.lift_bits.ensures, c.read.ensures, c.loop-cell.invariant.1)
          (greatest_lift_next a.bytes.now c.loop-cell.cell),
    )

pub returns : goal.returns
returns c =
    let e : c.loop-cell.cell ≡ c.args.n = omega arith in
    c.loop-cell.invariant.1 ∙ rw e
