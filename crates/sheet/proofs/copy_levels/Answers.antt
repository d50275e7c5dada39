-- `sheet::copy_levels` meets its contract: the part after the margin is copied.
-- Assumes nothing.
use Rattle.std.proofs.Common.{◌+◌, length, refl}
use Rattle.lists.proofs.Stored.{stored-part}
use Rattle.sheet.proofs.copy_levels.Goals as goal

pub returns : goal.returns
returns c =
    let a = c.args in
    stored-part a.labels.now 65 (65 + length a.levels.now) refl c.copy_from_slice.ensures.after
