-- `alike::neighbour_masks` meets its contract: before a row all cells before it have their masks.
-- Assumes nothing.
use mathlib.Core.Path.{ap, sym, ◌∙◌, ◌≡◌}
use Prim.Native.Nat.{ℕ, ◌%◌, ◌*◌, ◌+◌, ◌/◌, ◌<◌, ◌≤◌}
use native.Mathlib.Nat.{add-zero, div-add-mod', mul-le-mul_right, zero-mul}
use native.Mathlib.Omega.{arith}
use Rattle.alike.proofs.Puts.{filled_puts}
use Rattle.alike.specs.NeighbourMasks.{neighbour_mask}
use Rattle.grid.proofs.Rows.{column_of, row_next}
use Rattle.lists.proofs.Filled.{filled_none}
use Rattle.lists.specs.Lists.{filled}
use Rattle.alike.proofs.neighbour_masks.Goals as goal

-- all rows are n cells, and a row that starts is whole
all : (w n : ℕ) → n % w ≡ 0 → n / w * w ≡ n
all w n h = let e = div-add-mod' n w in omega arith

fits : (row w n : ℕ) → n % w ≡ 0 → row < n / w → row * w + w ≤ n
fits row w n h t =
    let m : (row + 1) * w ≤ n / w * w = mul-le-mul_right w (omega arith) in
    let e = row_next row w in
    let a = all w n h in
    omega arith

pub loop-row-init : goal.loop-row-init
loop-row-init c = rw (zero-mul c.args.w) (sym (filled_none _ _))

pub row_masks-requires : goal.row_masks-requires
row_masks-requires c =
    let a = c.args in
    let grid = c.requires.0 in
    let row = c.loop-row.row in
    let start : row * a.w % a.w ≡ 0 = ap (λ (b : ℕ). b % a.w) (sym (add-zero (row * a.w))) ∙ column_of a.w row 0 grid.rows.wide in
    (grid, fits row a.w a.n grid.rows.whole c.loop-row-test.true, start, omega arith)

pub loop-row-preserved : goal.loop-row-preserved
loop-row-preserved c =
    let a = c.args in
    let row = c.loop-row.row in
    let on = fits row a.w a.n c.requires.0.rows.whole c.loop-row-test.true in
    rw (row_next row a.w)
    (filled_puts (neighbour_mask a.neighbours a.w a.n) a.out.now (omega arith) (omega arith) c.loop-row.invariant c.row_masks.ensures)

pub returns : goal.returns
returns c =
    let a = c.args in
    let e : c.loop-row.row ≡ a.n / a.w = omega arith in
    c.loop-row.invariant
    ∙ ap (λ (k : ℕ). filled (neighbour_mask a.neighbours a.w a.n) k a.out.now)
    (ap (λ (r : ℕ). r * a.w) e ∙ all a.w a.n c.requires.0.rows.whole)
