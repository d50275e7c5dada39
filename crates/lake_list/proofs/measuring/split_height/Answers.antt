-- `lake_list::measuring::split_height` meets its contract. Between turns h is the greatest of the flagged heights of the cells so far.
-- Assumes nothing.
use mathlib.Core.Path.{ap, refl, ◌∙◌, ◌≡◌}
use Prim.Native.Nat.{ℕ}
use native.Mathlib.Omega.{arith}
use lib.ListN.{length}
use Rattle.lake_list.proofs.CellByCell.{greatest-flagged}
use Rattle.lake_list.specs.Measured.{flag_height}
use Rattle.lists.proofs.At.{at_member}
use Rattle.lists.proofs.Greatest.{greatest-next}
use Rattle.lists.proofs.Tab.{tab_entries}
use Rattle.lists.specs.Greatest.{greatest}
use Rattle.lists.specs.Lists.{at}
use Rattle.lake_list.proofs.measuring.split_height.Goals as goal

pub flagged_height-requires : goal.flagged_height-requires
flagged_height-requires c =
    let m = c.requires.on_tile_fact _ (at_member c.args.cells.now c.loop-c.c-index c.loop-c-test.true) in
    (m, omega (arith, c.requires.flags_fit))

pub loop-c-init : goal.loop-c-init
loop-c-init c = refl

pub loop-c-preserved : goal.loop-c-preserved
loop-c-preserved c =
    let f : ℕ → ℕ = λ k. flag_height c.args.heights.now c.args.flags.now (at c.args.cells.now k) in
    let e : c.flagged_height.result ≡ f c.loop-c.c-index = c.flagged_height.ensures in
    c.max-h.ensures ∙ rw (e, c.loop-c.invariant) (greatest-next f c.loop-c.c-index)

pub returns : goal.returns
returns c =
    let z : c.loop-c.c-index ≡ length c.args.cells.now = omega (arith, c.loop-c-test.false, c.loop-c.auto.c-index-end) in
    c.loop-c.invariant
    ∙ ap greatest (tab_entries (flag_height c.args.heights.now c.args.flags.now) c.args.cells.now z)
    ∙ greatest-flagged c.args.heights.now c.args.flags.now c.args.cells.now
