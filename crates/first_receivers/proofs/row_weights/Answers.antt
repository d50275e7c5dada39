-- `first_receivers::row_weights` meets its contract: before column x is stored the cells before it have their weights, those of the rows before and
-- those of this row; the column is known, so the four cells that are compared are the cell's neighbours.
-- Assumes nothing.
use Rattle.std.proofs.Common.{◌≡◌, ◌+◌, ◌-◌, ◌<◌, sym, refl, ap, ◌∙◌, add-zero, arith, le-ltb, lt-ltb}
use Rattle.first_receivers.proofs.Rows.{weight_at_lem}
use Rattle.first_receivers.specs.Weights.{weight}
use Rattle.lists.proofs.Filled.{filled_put}
use Rattle.first_receivers.proofs.row_weights.Goals as goal

-- the first column is stored
pub loop-x-init : goal.loop-x-init
loop-x-init c =
    let a = c.args in
    let T = c.requires.tile.0 in
    let R = c.requires.tile.1 in
    let wide = T.grid.rows.wide in
    let fits = R.fits in
    let z : a.b + 0 ≡ a.b = add-zero a.b in
    let first =
    weight_at_lem a.neighbours a.w a.b a.up a.down a.heights.now a.marks.now T.grid.rows R 0 wide a.b a.up a.b
    c.second.result a.down (sym z) (omega arith) (omega arith) (sym z) (c.second.ensures ∙ rw z) in (
      omega arith,
      λ old room q. filled_put (weight a.neighbours a.w a.heights.now a.marks.now) a.b (a.b + 1) old (omega arith) q refl
          (c.weight_of.ensures ∙ first ∙ ap (weight a.neighbours a.w a.heights.now a.marks.now) z) refl,
    )

pub loop-x-preserved : goal.loop-x-preserved
loop-x-preserved c =
    let a = c.args in
    let T = c.requires.tile.0 in
    let R = c.requires.tile.1 in
    let x = c.loop-x.x in
    let i = c.loop-x.invariant in
    let some : 0 < x = omega (arith, c.loop-x.auto.x) in
    let next : x + 1 < a.w = omega (arith, c.loop-x-test.true) in
    let here =
    weight_at_lem a.neighbours a.w a.b a.up a.down a.heights.now a.marks.now T.grid.rows R x (omega arith) (a.b + x) (a.up + x)
    (a.b + x - 1) (a.b + x + 1) (a.down + x) refl refl refl (rw (lt-ltb 0 x some)) (rw (lt-ltb (x + 1) a.w next)) in (
      omega arith,
      λ old room q. filled_put (weight a.neighbours a.w a.heights.now a.marks.now) (a.b + x) (a.b + (x + 1)) old (omega (arith, R.fits))
          (i.1 old room q) refl (c.weight_of-in-loop-x.ensures ∙ here) (omega arith),
    )

-- the last column is stored
pub returns-then-w-gt1 : goal.returns-then-w-gt1
returns-then-w-gt1 c =
    let a = c.args in
    let T = c.requires.tile.0 in
    let R = c.requires.tile.1 in
    let x = c.loop-x.x in
    let i = c.loop-x.invariant in
    let some : 0 < x = omega (arith, c.loop-x.auto.x) in
    let e : a.w - 1 ≡ x = omega (arith, c.loop-x-test.false, c.if-w-gt1.true, i.0) in
    let last =
    weight_at_lem a.neighbours a.w a.b a.up a.down a.heights.now a.marks.now T.grid.rows R x (omega arith) (a.b + (a.w - 1))
    (a.up + (a.w - 1)) (a.b + (a.w - 1) - 1) (a.b + (a.w - 1)) (a.down + (a.w - 1)) (omega arith) (omega arith) (omega arith)
    (rw (e, lt-ltb 0 x some)) (rw (e, le-ltb (x + 1) a.w (omega arith))) in
    λ old room q. filled_put (weight a.neighbours a.w a.heights.now a.marks.now) (a.b + x) (a.b + a.w) old (omega (arith, R.fits))
    (i.1 old room q) (omega arith) (c.weight_of-then-w-gt1.ensures ∙ last) (omega arith)
