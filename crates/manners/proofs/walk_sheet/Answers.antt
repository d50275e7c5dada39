-- `manners::walk_sheet` meets its contract: the links are those of the sheet's receivers, and a walk along them leaves its lists.
-- Assumes nothing.
use mathlib.Core.Path.{sym}
use lib.ListN.{length}
use lib.Seq.{length-take-le}
use Rattle.manners.proofs.Walks.{tile_walked}
use Rattle.rules.specs.Land.{Land, rule_by}
use Rattle.rules.specs.Network.{receivers_by}
use Rattle.rules.specs.Tile.{tile_land}
use Rattle.walk.specs.Walk.{Margin}
use Rattle.rules.specs.declared.Manner.TheVariants.{Sheet}
use Rattle.manners.proofs.walk_sheet.Goals as goal
use Rattle.manners.proofs.walk_sheet.Goals.{After-link_sheet}

abbrev land : After-link_sheet → Land
land c = let a = c.args in tile_land (rule_by a.neighbours) a.w a.heights.now a.marks.now

linked : (c : After-link_sheet)
    → let a = c.args in
    Margin (rule_by a.neighbours) a.w a.heights.now a.marks.now c.link_sheet.new.links (receivers_by Sheet (land c))
linked c = c.link_sheet.ensures c.args.heights.now c.requires.carved.0

pub slice_bounds-link_sheet-end-2 : goal.slice_bounds-link_sheet-end-2
slice_bounds-link_sheet-end-2 c =
    sym (length-take-le (length c.args.heights.now) c.args.levels.now c.requires.lent_holds.fits_levels)

pub link_sheet-requires : goal.link_sheet-requires
link_sheet-requires c =
    ((c.args.heights.now, c.requires.carved.0), c.requires.carved.1)

pub walk_links-requires : goal.walk_links-requires
walk_links-requires c =
    record {
      by_index = (receivers_by Sheet (land (goal.at.walk_links-requires c).After-link_sheet), linked (goal.at.walk_links-requires c).After-link_sheet);
      lent_holds = c.requires.lent_holds;
    }

pub returns : goal.returns
returns c =
    let at-place = (goal.at.returns c).After-link_sheet in
    tile_walked c.requires.carved.0.tile (linked at-place) c.requires.lent_holds (c.walk_links.ensures (receivers_by Sheet (land at-place)) (linked at-place))
