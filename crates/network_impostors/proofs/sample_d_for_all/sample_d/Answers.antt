-- `network_impostors::sample_d_for_all::sample_d` meets its contract: the real call accepts sample D's ground, and draws its network.
-- Assumes nothing.
use Rattle.network_impostors.proofs.WrittenOver.{D_drawn}
use Rattle.network_impostors.proofs.sample_d_for_all.sample_d.Goals as goal

pub returns : goal.returns
returns c =
    D_drawn c.requires c.network.ensures
