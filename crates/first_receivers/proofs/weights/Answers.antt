-- `first_receivers::weights` meets its contract: before each row all cells of the rows before have their weights, and a weight is the mask of the
-- first receiver alone.
-- Assumes nothing.
use Rattle.std.proofs.Common.{◌≡◌, ℕ, ◌*◌, ◌/◌, length, sym, ap, ◌∙◌, arith, zero-mul}
use Rattle.first_receivers.proofs.Weighing.{weight-mask}
use Rattle.first_receivers.proofs.Rows.{row_at, rows_end}
use Rattle.first_receivers.specs.Weights.{first_is, weight}
use Rattle.lists.proofs.Filled.{filled_none, filled_same}
use Rattle.lists.specs.Lists.{filled}
use Rattle.grid.specs.Masks.{mask_of}
use Rattle.grid.specs.Window.{around}
use Rattle.rules.specs.Land.{rule_by}
use Rattle.rules.specs.Tile.{tile_land}
use Rattle.first_receivers.proofs.weights.Goals as goal

pub loop-row-init : goal.loop-row-init
loop-row-init c = rw zero-mul (sym (filled_none _ _))

pub row_weights-requires-clause-tile : goal.row_weights-requires-clause-tile
row_weights-requires-clause-tile c =
    let T = c.requires.0 in
    (T, rw (c.row_above-up.ensures, c.row_below-down.ensures) (row_at T.grid.rows c.loop-row.row c.loop-row-test.true))

pub returns : goal.returns
returns c =
    let N = c.args.neighbours in
    let w = c.args.w in
    let hs = c.args.heights.now in
    let ms = c.args.marks.now in
    let e : c.loop-row.row ≡ length hs / w = omega (arith, c.loop-row-test.false, c.loop-row.auto.row-end) in
    c.loop-row.invariant
    ∙ ap (λ (k : ℕ). filled (weight N w hs ms) k c.args.out.now) (ap (λ (k : ℕ). k * w) e ∙ rows_end c.requires.0.grid.rows)
    ∙ filled_same (weight N w hs ms) (mask_of around w (length hs) (first_is (tile_land (rule_by N) w hs ms))) (length hs) c.args.out.now
    (λ k h. weight-mask N w hs ms c.requires.0 k h)
