-- `sheet::step_weights` meets its contract: before turn c the first c cells have their weights, and those from c on are as they were.
-- Assumes nothing.
use Rattle.std.proofs.Common.{◌≡◌}
use Rattle.lists.specs.Lists.{filled}
use Rattle.sheet.specs.LevelSteps.{lead_weight}
use Rattle.sheet.proofs.step_weights.Given as goal

abbrev pub invariant-loop-c : goal.invariant-loop-c
invariant-loop-c l =
    l.weights ≡ filled (lead_weight l.neighbours l.w l.likes l.counts l.initial.weights) l.c l.initial.weights
