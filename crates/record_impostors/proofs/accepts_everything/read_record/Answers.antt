-- `record_impostors::accepts_everything::read_record` meets its contract: the answer is always the same, and nothing is stored.
-- Assumes nothing.
use mathlib.Core.Path.{refl}
use Rattle.record_impostors.proofs.accepts_everything.read_record.Goals as goal

pub returns : goal.returns
returns c = record { answer = refl; lists = refl }
