-- `askvimur::askvimur_network` meets its contract: the answer of the call, packed.
-- Assumes nothing.
use Rattle.network_record.proofs.ForC.{packable, packed}
use Rattle.grid.specs.declared.Neighbours.TheVariants.{Four}
use Rattle.rules.specs.declared.Manner.TheVariants.{Carve}
use Rattle.askvimur.proofs.askvimur_network.Goals as goal

pub answer_for_c-requires : goal.answer_for_c-requires
answer_for_c-requires c =
    let a = c.args in
    packable Four Carve a.ground.now a.network.now c.record_call.ensures

pub returns : goal.returns
returns c =
    let a = c.args in
    packed Four Carve a.ground.now a.network.now c.record_call.ensures c.answer_for_c.ensures
