-- `lake_list::measuring::volume_of` meets its contract. Between turns the total is that of the cells so far.
-- Assumes nothing.
use mathlib.Core.Path.{ap, refl, ◌∙◌, ◌≡◌}
use Prim.Native.Nat.{ℕ, ◌-◌}
use native.Mathlib.Omega.{arith}
use lib.ListN.{length}
use Rattle.lists.proofs.At.{at_member}
use Rattle.lists.proofs.Sum.{sum-next}
use Rattle.lists.proofs.Tab.{tab_entries}
use Rattle.lists.specs.Lists.{at, sum}
use Rattle.lake_list.proofs.measuring.volume_of.Goals as goal

pub loop-c-init : goal.loop-c-init
loop-c-init c = (refl, omega arith)

pub water_over-total-requires : goal.water_over-total-requires
water_over-total-requires c =
    let m = at_member c.args.cells.now c.loop-c.c-index c.loop-c-test.true in
    (c.requires.on_tile_fact _ m, c.requires.below _ m)

pub overflow_add-total : goal.overflow_add-total
overflow_add-total c =
    omega (arith, c.requires.few, c.loop-c.invariant.1, c.loop-c-test.true, c.water_over-total.ensures.1)

pub loop-c-preserved : goal.loop-c-preserved
loop-c-preserved c =
    let f : ℕ → ℕ = λ k. c.args.level - at c.args.heights.now (at c.args.cells.now k) in
    let e : c.water_over-total.result ≡ f c.loop-c.c-index = c.water_over-total.ensures.0 in
    (rw (e, c.loop-c.invariant.0) (sum-next f c.loop-c.c-index), omega (arith, c.loop-c.invariant.1, c.water_over-total.ensures.1))

pub returns : goal.returns
returns c =
    let z : c.loop-c.c-index ≡ length c.args.cells.now = omega (arith, c.loop-c-test.false, c.loop-c.auto.c-index-end) in
    c.loop-c.invariant.0 ∙ ap sum (tab_entries (λ (x : ℕ). c.args.level - at c.args.heights.now x) c.args.cells.now z)
