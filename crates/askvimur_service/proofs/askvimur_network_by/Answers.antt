-- `askvimur_service::askvimur_network_by` meets its contract: the answer of the call, packed.
-- Assumes nothing.
use Rattle.network_by.proofs.ForC.{counted_packable, counted_packed}
use Rattle.askvimur_service.proofs.askvimur_network_by.Goals as goal

pub answer_for_c-requires : goal.answer_for_c-requires
answer_for_c-requires c =
    let a = c.args in
    counted_packable a.neighbours a.manner a.ground.now a.network.now c.network_of_record.ensures

pub returns : goal.returns
returns c =
    let a = c.args in
    counted_packed a.neighbours a.manner a.ground.now a.network.now c.network_of_record.ensures c.answer_for_c.ensures
