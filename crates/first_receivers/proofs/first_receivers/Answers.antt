-- `first_receivers::first_receivers` meets its contract: each cell gets the cell that its weight leads to, and that is its first receiver.
-- Assumes nothing.
use Rattle.std.proofs.Common.{rules}
use Rattle.first_receivers.proofs.Weighing.{weighed_grid, weighed_placed}
use Rattle.rules.specs.FirstWays.{first_receiver}
use Rattle.rules.specs.Land.{rule_by}
use Rattle.rules.specs.Tile.{tile_land}
use Rattle.first_receivers.proofs.first_receivers.Goals as goal

pub fill-requires-clause-callable : goal.fill-requires-clause-callable
fill-requires-clause-callable c =
    let (heights, marks, W) = c.requires.by_index in
    let G = weighed_grid W in
    λ k h. let P = weighed_placed W k h in search rules

pub returns : goal.returns
returns c =
    λ heights marks W. c.fill.ensures (first_receiver (tile_land (rule_by c.args.neighbours) c.args.w heights marks))
    (λ k h y p. let G = weighed_grid W in let P = weighed_placed W k h in search rules)
