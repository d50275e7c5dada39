-- `lowest::lowest_weights` meets its contract: each cell's weight by the levels around it is the mask of its lowest neighbour.
-- Assumes nothing.
use Rattle.std.proofs.Common.{rules}
use Rattle.lowest.proofs.Weighing.{weight-mask}
use Rattle.lowest.proofs.lowest_weights.Goals as goal

pub returns : goal.returns
returns c = c.fill.ensures _ (λ k h y p. let m = weight-mask c.requires.0 k h in search rules)
