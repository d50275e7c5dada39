-- `stages::find_first` meets its contract: both first receivers and links are read off the weights.
-- Assumes nothing.
use mathlib.Core.Path.{◌≡◌}
use native.Mathlib.Omega.{arith}
use lib.ListN.{length}
use Rattle.first_receivers.specs.Weights.{Weighed}
use Rattle.links.specs.Leads.{Leading}
use Rattle.rules.specs.FirstWays.{first_receiver}
use Rattle.rules.specs.Land.{Land, rule_by}
use Rattle.rules.specs.Tile.{tile_land}
use Rattle.stages.proofs.Stages.{leading, weighed}
use Rattle.stages.proofs.find_first.Goals as goal
use Rattle.stages.proofs.find_first.Goals.{After-weights}

abbrev land : After-weights → Land
land c = let a = c.args in tile_land (rule_by a.neighbours) a.w a.heights.now a.marks.now

-- what `weights` left is what first receivers ask for
weights-are : (c : After-weights)
    → let a = c.args in
    Weighed a.neighbours a.w (length a.heights.now) a.heights.now a.marks.now c.weights.new.out
weights-are c = let a = c.args in weighed a.neighbours a.w a.heights.now a.marks.now c.requires.tile _ c.weights.ensures

-- and what links ask for
weights-lead : (c : After-weights)
    → Leading c.args.neighbours c.args.w (length c.args.heights.now) (first_receiver (land c)) c.weights.new.out
weights-lead c =
    let a = c.args in
    let few = c.requires.tile.grid.few in
    let l : length c.weights.new.out ≡ 4096 = c.weights.auto.out in
    leading a.neighbours a.w a.heights.now a.marks.now c.requires.tile _ (omega arith) c.weights.ensures

pub first_receivers-requires : goal.first_receivers-requires
first_receivers-requires c =
    let a = c.args in
    record {
      by_index = (a.heights.now, a.marks.now, weights-are (goal.at.first_receivers-requires c).After-weights);
      n_in_bounds = ((weights-lead (goal.at.first_receivers-requires c).After-weights).room, c.requires.heights_in_bounds.0);
    }

pub link_leads-requires : goal.link_leads-requires
link_leads-requires c =
    let at-place = (goal.at.link_leads-requires c).After-weights in
    ((first_receiver (land at-place), weights-lead at-place), c.requires.heights_in_bounds.1)

pub returns : goal.returns
returns c =
    let at-place = (goal.at.returns c).After-weights in
    let a = c.args in record {
      firsts_after = c.first_receivers.ensures a.heights.now a.marks.now (weights-are at-place);
      links_after = c.link_leads.ensures (first_receiver (land at-place)) (weights-lead at-place);
    }
