-- `network_impostors::own_receiver::network` meets its contract: the real call draws, and own numbers are written over its receivers.
-- Assumes nothing.
use native.Mathlib.Omega.{arith}
use borrow.Author.Rules.{rules}
use Rattle.network_impostors.proofs.Drawn.{drawn_few, drawn_holds}
use Rattle.network_impostors.proofs.WrittenOver.{own_receivers-left}
use Rattle.network_impostors.proofs.own_receiver.network.Goals as goal

pub fill-requires-clause-n_in_bounds : goal.fill-requires-clause-n_in_bounds
fill-requires-clause-n_in_bounds c =
    let drawn = c.network-judged in
    let H = drawn_holds _ _ drawn.result drawn.ensures in
    omega (arith, c.accepted_cells.ensures, H.receivers_hold)

pub fill-requires-clause-callable : goal.fill-requires-clause-callable
fill-requires-clause-callable c k l κs p a b =
    let drawn = c.network-judged in
    let f = drawn_few _ _ drawn.result drawn.ensures in
    omega (arith, l, c.accepted_cells.ensures, f)

pub returns : goal.returns
returns c =
    let drawn = c.network-judged in
    own_receivers-left _ _ drawn.result drawn.ensures c.accepted_cells.ensures (c.fill.ensures (λ k. k) (λ k l y e. search rules))
