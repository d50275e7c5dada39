-- `network_impostors::draw` meets its contract: it is that of the call that it hands on to.
-- Assumes nothing.
use Rattle.network_impostors.proofs.draw.Goals as goal

pub returns : goal.returns
returns c =
    record { answer = c.network.ensures.answer; lists = c.network.ensures.lists }
