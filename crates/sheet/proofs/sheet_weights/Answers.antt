-- `sheet::sheet_weights` meets its contract: what the first part leaves is what the second asks for (Lowering).
-- Assumes nothing.
use Rattle.std.proofs.Common.{length, take, sym}
use Rattle.sheet.proofs.Lowering.{lead-filled, lowered}
use Rattle.sheet.specs.SheetLinks.{Lowered}
use Rattle.sheet.proofs.sheet_weights.Goals as goal
use Rattle.sheet.proofs.sheet_weights.Goals.{After-find_lowest}

lows : (c : After-find_lowest) → let a = c.args in
    Lowered a.neighbours a.w a.levels.now a.marks.now c.find_lowest.new.weights
    (take (length a.levels.now) c.find_lowest.new.likes)
lows c =
    lowered c.args.neighbours c.requires.0 c.args.weights.now c.args.likes.now c.requires.1 c.find_lowest.ensures.0
    c.find_lowest.ensures.1

pub slice_bounds-step_levels-end-2 : goal.slice_bounds-step_levels-end-2
slice_bounds-step_levels-end-2 c = sym (lows (goal.at.slice_bounds-step_levels-end-2 c).After-find_lowest).full

pub step_levels-requires : goal.step_levels-requires
step_levels-requires c =
    (c.args.levels.now, lows (goal.at.step_levels-requires c).After-find_lowest)

pub returns : goal.returns
returns c =
    let a = c.args in
    lead-filled a.neighbours a.w a.levels.now a.marks.now a.weights.now c.find_lowest.ensures.0
    (c.step_levels.ensures a.levels.now (lows (goal.at.returns c).After-find_lowest))
