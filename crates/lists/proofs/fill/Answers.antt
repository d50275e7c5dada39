-- `lists::fill` meets its contract: after k turns the first k entries are what the closure gave.
-- Assumes nothing.
use mathlib.Core.Path.{refl, sym}
use Prim.Native.Nat.{◌+◌}
use native.Mathlib.Omega.{arith}
use Rattle.lists.proofs.Filled.{filled_none, filled_put}
use Rattle.lists.proofs.fill.Goals as goal

pub loop-k-init : goal.loop-k-init
loop-k-init g c = (omega arith, λ f h. sym (filled_none f c.args.out.now))

pub loop-k-preserved : goal.loop-k-preserved
loop-k-preserved g c =
    let k = c.loop-k.k in (
      omega arith,
      λ f h. filled_put f k (k + 1) c.args.out.now (omega (arith, c.requires.n_in_bounds)) (c.loop-k.invariant.1 f h) refl
          (h k c.loop-k-test.true c.of.result c.of.ensures) refl,
    )
