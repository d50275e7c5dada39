-- `record_impostors::read` meets its contract: it is that of the reader that it hands on to.
-- Assumes nothing.
use Rattle.record_impostors.proofs.read.Goals as goal

pub returns : goal.returns
returns c = c.read_record.ensures
