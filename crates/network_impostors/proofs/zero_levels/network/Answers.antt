-- `network_impostors::zero_levels::network` meets its contract: the real call draws, and zeros are written over its levels and its drainage.
-- Assumes nothing.
use lib.IntN.{pos}
use native.Mathlib.Omega.{arith}
use borrow.Author.Rules.{rules}
use Rattle.network_impostors.proofs.Drawn.{drawn_holds}
use Rattle.network_impostors.proofs.WrittenOver.{zero_levels_left}
use Rattle.network_impostors.proofs.zero_levels.network.Goals as goal

pub fill-requires-clause-n_in_bounds : goal.fill-requires-clause-n_in_bounds
fill-requires-clause-n_in_bounds c =
    let drawn = c.network-judged in
    let H = drawn_holds _ _ drawn.result drawn.ensures in
    omega (arith, c.accepted_cells-n.ensures, H.levels_hold)

pub fill-requires-2-clause-n_in_bounds : goal.fill-requires-2-clause-n_in_bounds
fill-requires-2-clause-n_in_bounds c =
    let drawn = c.network-judged in
    let H = drawn_holds _ _ drawn.result drawn.ensures in
    omega (arith, c.accepted_cells-n.ensures, H.drainage_holds)

pub returns : goal.returns
returns c =
    let drawn = c.network-judged in
    zero_levels_left _ _ drawn.result drawn.ensures c.accepted_cells-n.ensures
    (c.fill.ensures (λ _. pos 0) (λ k l y e. search rules))
    (c.fill-2.ensures (λ _. 0) (λ k l y e. search rules))
