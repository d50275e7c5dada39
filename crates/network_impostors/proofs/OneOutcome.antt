-- The contracts of `draw` and of each impostor determine the answer and all six lists: any two outcomes that one allows are equal. The
-- contracts are those in src/.
-- Assumes nothing.
use Rattle.lists.proofs.Determined.{one_outcome}
use Rattle.lists.specs.Contract.{OneOutcome}
use Rattle.rules.specs.SixLists.{six_lists}
use Rattle.network_impostors.proofs.draw.Kinds as draw-kinds
use Rattle.network_impostors.proofs.draw.Reads as draw
use Rattle.network_impostors.proofs.own_receiver.network.Kinds as own-receiver-kinds
use Rattle.network_impostors.proofs.own_receiver.network.Reads as own-receiver
use Rattle.network_impostors.proofs.refuses_every_tile.network.Kinds as refuses-every-tile-kinds
use Rattle.network_impostors.proofs.refuses_every_tile.network.Reads as refuses_every_tile
use Rattle.network_impostors.proofs.sample_d_for_all.network.Kinds as sample-d-for-all-kinds
use Rattle.network_impostors.proofs.sample_d_for_all.network.Reads as sample_d_for_all
use Rattle.network_impostors.proofs.zero_levels.network.Kinds as zero-levels-kinds
use Rattle.network_impostors.proofs.zero_levels.network.Reads as zero_levels_lem

-- the answer and the six lists
pub draw_one : OneOutcome 9 draw-kinds.ps draw-kinds.r draw.Asked draw.Learnt
    (λ κs a r e. six_lists e.1.1.1.1.1.0.now e.1.1.1.1.1.1.0.now e.1.1.1.1.1.1.1.0.now
    e.1.1.1.1.1.1.1.1.0.now e.1.1.1.1.1.1.1.1.1.0.now e.1.1.1.1.1.1.1.1.1.1.0.now)
draw_one κs a p r r' e e' x y = one_outcome x y

pub own-receiver-one : OneOutcome 9 own-receiver-kinds.ps own-receiver-kinds.r own-receiver.Asked own-receiver.Learnt
    (λ κs a r e. six_lists e.1.1.1.1.1.0.now e.1.1.1.1.1.1.0.now e.1.1.1.1.1.1.1.0.now
    e.1.1.1.1.1.1.1.1.0.now e.1.1.1.1.1.1.1.1.1.0.now e.1.1.1.1.1.1.1.1.1.1.0.now)
own-receiver-one κs a p r r' e e' x y = one_outcome x y

pub refuses_every_tile-one : OneOutcome 9 refuses-every-tile-kinds.ps refuses-every-tile-kinds.r refuses_every_tile.Asked refuses_every_tile.Learnt
    (λ κs a r e. six_lists e.1.1.1.1.1.0.now e.1.1.1.1.1.1.0.now e.1.1.1.1.1.1.1.0.now
    e.1.1.1.1.1.1.1.1.0.now e.1.1.1.1.1.1.1.1.1.0.now e.1.1.1.1.1.1.1.1.1.1.0.now)
refuses_every_tile-one κs a p r r' e e' x y = one_outcome x y

pub sample_d_for_all-one : OneOutcome 9 sample-d-for-all-kinds.ps sample-d-for-all-kinds.r sample_d_for_all.Asked sample_d_for_all.Learnt
    (λ κs a r e. six_lists e.1.1.1.1.1.0.now e.1.1.1.1.1.1.0.now e.1.1.1.1.1.1.1.0.now
    e.1.1.1.1.1.1.1.1.0.now e.1.1.1.1.1.1.1.1.1.0.now e.1.1.1.1.1.1.1.1.1.1.0.now)
sample_d_for_all-one κs a p r r' e e' x y = one_outcome x y

pub zero_levels-one : OneOutcome 9 zero-levels-kinds.ps zero-levels-kinds.r zero_levels_lem.Asked zero_levels_lem.Learnt
    (λ κs a r e. six_lists e.1.1.1.1.1.0.now e.1.1.1.1.1.1.0.now e.1.1.1.1.1.1.1.0.now
    e.1.1.1.1.1.1.1.1.0.now e.1.1.1.1.1.1.1.1.1.0.now e.1.1.1.1.1.1.1.1.1.1.0.now)
zero_levels-one κs a p r r' e e' x y = one_outcome x y
