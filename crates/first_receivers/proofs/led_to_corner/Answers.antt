-- `first_receivers::led_to_corner` meets its contract: the selects go through the bits of the four corners.
-- Assumes nothing.
use Rattle.std.proofs.Common.{rules}
use Rattle.first_receivers.proofs.Selects.{corners-led}
use Rattle.first_receivers.proofs.led_to_corner.Goals as goal

pub returns : goal.returns
returns c =
    let a = c.args in
    let ul = c.wrapping_sub_u16 in
    let ur = c.wrapping_sub_u16-2 in
    rw (c.if_weight.ensures, c.if_weight-lower_left.ensures, c.if_weight-upper_right.ensures, c.if_weight-upper_left.ensures)
    (corners-led a.w a.c.0 a.k a.side.0 ul.result ur.result c.requires.0
    (record { small = search rules; back = ul.ensures.value }) (record { small = search rules; back = ur.ensures.value }))
