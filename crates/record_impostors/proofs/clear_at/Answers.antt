-- `record_impostors::clear_at` meets its contract: a store past the end changes nothing.
-- Assumes nothing.
use mathlib.Core.Path.{sym}
use lib.Seq.{set_out}
use Rattle.record_impostors.proofs.clear_at.Goals as goal

pub returns-else-at-marks : goal.returns-else-at-marks
returns-else-at-marks c = sym (set_out c.args.marks.now c.args.at 0 c.if-at-marks.false)
