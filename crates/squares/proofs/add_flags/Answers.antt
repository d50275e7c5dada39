-- `squares::add_flags` meets its contract.
-- After c turns the first c flags have the side's bit where the pair is kept. A turn adds what `kept` says of the cell's two squares;
-- flags have room for it.
-- Assumes nothing.
use mathlib.Core.Logic.{inr}
use mathlib.Core.Path.{◌∙◌}
use Prim.Native.Nat.{◌+◌, ◌<◌}
use native.Mathlib.Omega.{arith}
use lib.ListN.{length}
use Rattle.lists.proofs.Puts.{puts_next}
use Rattle.lists.specs.Lists.{at}
use Rattle.squares.proofs.Flags.{flag_in}
use Rattle.squares.specs.Squares.{flag}
use Rattle.squares.proofs.add_flags.Goals as goal

pub loop-c-preserved : goal.loop-c-preserved
loop-c-preserved c =
    let a = c.args in
    let n = length a.tile.heights.now in
    let i = c.loop-c.c in
    let h : i + a.side.on < n = omega (arith, c.loop-c-test.true, c.saturating_sub-c-end.ensures) in
    let e = c.loop-c.invariant.outside i (inr (omega arith)) in
    let q = c.kept.ensures.0 ∙ flag_in a.side n a.tile.labels.now (at a.sq.now) i h in
    puts_next (λ j. at a.flags.now j + flag a.side n a.tile.labels.now (at a.sq.now) j) _ c.loop-c.invariant (omega arith)
    (omega (arith, c.requires.n_bound)) (rw (e, q))
