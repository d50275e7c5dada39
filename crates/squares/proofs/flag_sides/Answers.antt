-- `squares::flag_sides` meets its contract: the bits of the pairs to the right, and then those of the pairs below.
-- Assumes nothing.
use native.Mathlib.Omega.{arith}
use lib.ListN.{length}
use Rattle.lists.specs.Lists.{at}
use Rattle.squares.proofs.Flags.{flag_added}
use Rattle.squares.specs.Squares.{side_at}
use Rattle.squares.proofs.flag_sides.Goals as goal

pub returns : goal.returns
returns c =
    let a = c.args in
    let n = length a.tile.heights.now in
    λ i h.
    let e = flag_added (side_at a.tile.w 0) n a.tile.labels.now (at a.sq.now) i c.add_flags.ensures in
    let f = flag_added (side_at a.tile.w 2) n a.tile.labels.now (at a.sq.now) i c.add_flags-2.ensures in
    let z = c.requires.by_index i h in
    omega (arith, z, e, f)
