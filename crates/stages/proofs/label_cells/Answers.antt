-- `stages::label_cells` meets its contract: first receivers lead to basins and labels.
-- Assumes nothing.
use mathlib.Core.Path.{ap, refl, ◌∙◌}
use native.Mathlib.Omega.{arith}
use lib.ListN.{length}
use Rattle.basins.proofs.Numbered.{labels_marked}
use Rattle.basins.specs.Jumps.{FirstReceivers}
use Rattle.lists.proofs.Filled.{filled_again}
use Rattle.lists.specs.Lists.{filled}
use Rattle.rules.specs.FirstWays.{basin, first_receiver}
use Rattle.rules.specs.Land.{Land, rule_by}
use Rattle.rules.specs.Tile.{tile_land}
use Rattle.stages.proofs.Stages.{firsts_are, linkable}
use Rattle.stages.proofs.label_cells.Goals as goal
use Rattle.stages.proofs.label_cells.Goals.{After-find_first}

abbrev land : After-find_first → Land
land c = let a = c.args in tile_land (rule_by a.neighbours) a.w a.heights.now a.marks.now

-- what `find_first` left is what `basin_numbers` asks for
firsts : (c : After-find_first) → FirstReceivers (land c) (length c.args.heights.now) c.find_first.new.firsts
firsts c =
    let a = c.args in
    let p = c.requires in
    firsts_are p.lawful_tile a.basins.now p.heights_in_bounds.0 c.find_first.ensures.firsts_after

pub basin_numbers-requires : goal.basin_numbers-requires
basin_numbers-requires c =
    let T = c.requires.lawful_tile.tile in
    let few = T.grid.few in
    let m = T.marked in
    let room = c.requires.heights_in_bounds_2 in
    record {
      first_receivers = (land (goal.at.basin_numbers-requires c).After-find_first, firsts (goal.at.basin_numbers-requires c).After-find_first);
      n_in_bounds = (omega arith, omega arith);
    }

pub returns : goal.returns
returns c =
    let a = c.args in
    let p = c.requires in
    let L = land (goal.at.returns c).After-find_first in
    let F = firsts (goal.at.returns c).After-find_first in
    let n = length a.heights.now in
    let numbered = c.basin_numbers.ensures in record {
      basins_after = numbered.numbers_are L F ∙ ap (filled (basin L) n) c.find_first.ensures.firsts_after
          ∙ filled_again (basin L) (first_receiver L) n a.basins.now;
      linkable = linkable p.lawful_tile _ a.links.now (numbered.labels_are L F ∙ labels_marked L _ _ F a.marks.now _ (λ d h. refl)) p.heights_in_bounds.1
          c.find_first.ensures.links_after;
    }
