-- `squares::flag_corners` meets its contract: the bits of the pairs below to the left, and then those of the pairs below to the right.
-- Assumes nothing.
use native.Mathlib.Omega.{arith}
use lib.ListN.{length}
use Rattle.lists.specs.Lists.{at}
use Rattle.squares.proofs.Flags.{flag_added}
use Rattle.squares.specs.Squares.{side_at}
use Rattle.squares.proofs.flag_corners.Goals as goal

pub returns : goal.returns
returns c =
    let a = c.args in
    let n = length a.tile.heights.now in
    λ i h.
    let e = flag_added (side_at a.tile.w 1) n a.tile.labels.now (at a.sq.now) i c.add_flags.ensures in
    let f = flag_added (side_at a.tile.w 3) n a.tile.labels.now (at a.sq.now) i c.add_flags-2.ensures in
    omega (arith, e, f)
