-- `lake_notes::wet_cells` meets its contract: after c cells the wet ones among them stand at the start.
-- Assumes nothing.
use mathlib.Core.Path.{refl}
use native.Mathlib.Omega.{arith}
use Rattle.lake_notes.proofs.WetCells.{kept_all, kept_dry, kept_none, kept_wet}
use Rattle.lake_notes.proofs.listing.wet_cells.Goals as goal
use Rattle.lake_notes.proofs.listing.wet_cells.Goals.{else-heights-c, then-heights-c}

pub loop-c-init : goal.loop-c-init
loop-c-init c = let a = c.args in (refl, omega arith, kept_none a.heights.now a.levels.now a.cells.now)

pub bounds-cells-k : goal.bounds-cells-k
bounds-cells-k c = let K = c.loop-c.invariant.2 in omega (arith, K.long, K.few)

pub loop-c-preserved : goal.loop-c-preserved
loop-c-preserved c =
    let a = c.args in
    let K = c.loop-c.invariant.2 in (
      refl,
      omega arith,
      elim c.if-heights-c.branch [
        | then-heights-c w ↦
            rw (w.cells-is, w.k-is) (kept_wet a.heights.now a.levels.now K w.if-heights-c.true (omega (arith, K.few, c.requires)))
        | else-heights-c w ↦
            rw (w.cells-is, w.k-is) (kept_dry a.heights.now a.levels.now K w.if-heights-c.false)
      ],
    )

pub returns : goal.returns
returns c =
    let a = c.args in
    kept_all a.heights.now a.levels.now c.loop-c.invariant.2 (omega arith)

pub overflow_add-k : goal.overflow_add-k
overflow_add-k c = let K = c.loop-c.invariant.2 in omega (arith, K.few)

pub shape_of-cells : goal.shape_of-cells
shape_of-cells c = c.loop-c.invariant.2.long
