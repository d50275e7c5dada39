-- `stages::link_chosen` meets its contract: the chosen pairs, added to the links with first receivers, are the links of the network.
-- Assumes nothing.
use mathlib.Core.List.{List}
use mathlib.Core.Path.{sym}
use Prim.Native.Nat.{ℕ}
use lib.ListN.{length, take}
use lib.Seq.{length-take-le}
use Rattle.grid.specs.Masks.{joined}
use Rattle.passes.specs.Choosing.{ChosenPairs}
use Rattle.rules.specs.FirstWays.{first_receiver}
use Rattle.rules.specs.Land.{rule_by}
use Rattle.rules.specs.Tile.{tile_land}
use Rattle.stages.proofs.Stages.{addable, choosable, linkage}
use Rattle.stages.specs.Linking.{Linkable}
use Rattle.stages.proofs.link_chosen.Goals as goal
use Rattle.stages.proofs.link_chosen.Goals.{After-choose_pairs-count}

-- what `choose_pairs` left, for any marks
chosen-are : (c : After-choose_pairs-count) (marks : List ℕ)
    → let a = c.args in
    Linkable (rule_by a.neighbours) a.w a.heights.now marks a.labels.now a.links.now
    → ChosenPairs a.neighbours a.w a.heights.now marks (take c.choose_pairs-count.result c.choose_pairs-count.new.list)
chosen-are c marks K = c.choose_pairs-count.ensures.pairs marks (choosable c.args.neighbours K _ c.requires.heights_in_bounds.0)

pub choose_pairs-count-requires : goal.choose_pairs-count-requires
choose_pairs-count-requires c =
    record {
      by_index = (c.requires.by_index.0, choosable c.args.neighbours c.requires.by_index.1 _ c.requires.heights_in_bounds.0);
      list_in_bounds = c.requires.heights_in_bounds.1;
    }

pub slice_bounds-link_pairs-end-2 : goal.slice_bounds-link_pairs-end-2
slice_bounds-link_pairs-end-2 c =
    let chosen = c.choose_pairs-count in
    sym (length-take-le chosen.result chosen.new.list chosen.ensures.within)

pub link_pairs-requires : goal.link_pairs-requires
link_pairs-requires c =
    let a = c.args in
    let (marks, K) = c.requires.by_index in (
      length a.heights.now,
      joined (first_receiver (tile_land (rule_by a.neighbours) a.w a.heights.now marks)),
      addable a.neighbours K _ (chosen-are (goal.at.link_pairs-requires c).After-choose_pairs-count marks K),
    )

pub returns : goal.returns
returns c =
    let a = c.args in
    λ marks K.
    let C = chosen-are (goal.at.returns c).After-choose_pairs-count marks K in
    linkage a.neighbours K _ C
    (c.link_pairs.ensures (length a.heights.now)
    (joined (first_receiver (tile_land (rule_by a.neighbours) a.w a.heights.now marks))) (addable a.neighbours K _ C))
