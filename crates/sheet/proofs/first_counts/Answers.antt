-- `sheet::first_counts` meets its contract: what is past the margin is filled.
-- Assumes nothing.
use Rattle.std.proofs.Common.{length, rules}
use Rattle.sheet.proofs.Margins.{stored_filled}
use Rattle.sheet.specs.LevelSteps.{first_count}
use Rattle.sheet.proofs.first_counts.Goals as goal

pub returns : goal.returns
returns c =
    let a = c.args in
    let f = first_count a.weights.now a.marks.now in
    stored_filled f (length a.marks.now) a.counts.now (c.fill.ensures f (search rules))
