-- `record_impostors::writes_first::read_record` meets its contract: it is the reader's, on marks whose first entry has been cleared.
-- Assumes nothing.
use Rattle.record_impostors.proofs.writes_first.read_record.Goals as goal

pub returns : goal.returns
returns c =
    rw c.clear_at.ensures at c.read_record.ensures
