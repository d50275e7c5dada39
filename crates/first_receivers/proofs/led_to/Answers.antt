-- `first_receivers::led_to` meets its contract: the selects go through the bits of the sides, and with eight neighbours through those of the
-- corners.
-- Assumes nothing.
use Rattle.std.proofs.Common.{subst, rules}
use Rattle.first_receivers.proofs.Selects.{eight_led, four_led}
use Rattle.first_receivers.specs.Weights.{Placed}
use Rattle.grid.specs.declared.Neighbours.{Neighbours}
use Rattle.first_receivers.proofs.led_to.Goals as goal

pub returns-in-Four : goal.returns-in-Four
returns-in-Four c =
    let a = c.args in
    let l = c.wrapping_sub_u16-2 in
    let u = c.wrapping_sub_u16 in
    λ n d G on P. rw (c.if_weight-side.ensures, c.if_weight-right.ensures, c.if_weight-left.ensures, c.if_weight-up.ensures)
    (four_led a.w a.c.0 a.k u.result l.result (record { small = search rules; back = u.ensures.value })
    (record { small = search rules; back = l.ensures.value }) n d G.few
    (subst (λ (N : Neighbours). Placed N a.w n a.c.0 d a.k) c.in-Four.is P))

pub returns-in-Eight : goal.returns-in-Eight
returns-in-Eight c =
    let a = c.args in
    let l = c.wrapping_sub_u16-2 in
    let u = c.wrapping_sub_u16 in
    λ n d G on P. eight_led a.w a.c.0 a.k u.result l.result (record { small = search rules; back = u.ensures.value })
    (record { small = search rules; back = l.ensures.value })
    (rw (c.if_weight-side.ensures, c.if_weight-right.ensures, c.if_weight-left.ensures, c.if_weight-up.ensures)
    at c.led_to_corner.ensures) n d G.few
    (subst (λ (N : Neighbours). Placed N a.w n a.c.0 d a.k) c.in-Eight.is P)
