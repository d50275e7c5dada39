-- `manners::walk_by` meets its contract: after the first walk carving's lists stand, and for a sheet those of the second take their place.
-- Assumes nothing.
use native.Mathlib.Omega.{arith}
use lib.ListN.{length}
use Rattle.manners.proofs.Walks.{levels-carved, tile_again, tile_walked}
use Rattle.rules.specs.Carving.{receivers}
use Rattle.rules.specs.Land.{Land, rule_by}
use Rattle.rules.specs.Tile.{tile_land}
use Rattle.walk.specs.Walk.{Lent, lent, LentHolds, WalkedWhole}
use Rattle.rules.specs.declared.Manner.TheVariants.{Sheet}
use Rattle.manners.proofs.walk_by.Goals as goal
use Rattle.manners.proofs.walk_by.Goals.{After-walk_links}

abbrev land : After-walk_links → Land
land c = let a = c.args in tile_land (rule_by a.neighbours) a.w a.heights.now a.marks.now

-- the five lists, as they were lent and as the first walk left them
abbrev before : After-walk_links → Lent
before c = let a = c.args in lent a.stack.now a.order.now a.receivers.now a.levels.now a.wets.now

abbrev carved : After-walk_links → Lent
carved c =
    lent c.walk_links.new.stack c.walk_links.new.order c.walk_links.new.receivers c.walk_links.new.levels c.walk_links.new.wets

walked : (c : After-walk_links) → WalkedWhole (land c) (receivers (land c)) (before c) (carved c)
walked c =
    let p = c.requires in
    tile_walked p.lawful_tile.0 p.margin p.lent_holds (c.walk_links.ensures (receivers (land c)) p.margin)

-- the lists keep their lengths
room : (c : After-walk_links) → LentHolds (length c.args.heights.now) (carved c)
room c =
    let P = c.requires.lent_holds in
    record {
      fits_stack = omega (arith, P.fits_stack, c.walk_links.auto.stack);
      fits_order = omega (arith, P.fits_order, c.walk_links.auto.order);
      fits_receivers = omega (arith, P.fits_receivers, c.walk_links.auto.receivers);
      fits_levels = omega (arith, P.fits_levels, c.walk_links.auto.levels);
      fits_wets = omega (arith, P.fits_wets, c.walk_links.auto.wets);
    }

pub walk_sheet-requires : goal.walk_sheet-requires
walk_sheet-requires c =
    let p = c.requires in
    record {
      carved = (levels-carved c.args.neighbours p.lawful_tile.0 (walked (goal.at.walk_sheet-requires c).After-walk_links), p.lawful_tile.1);
      lent_holds = room (goal.at.walk_sheet-requires c).After-walk_links;
    }

pub returns-in-Carve : goal.returns-in-Carve
returns-in-Carve c = rw c.in-Carve.is (walked (goal.at.returns-in-Carve c).After-walk_links)

pub returns-in-Sheet : goal.returns-in-Sheet
returns-in-Sheet c =
    rw c.in-Sheet.is (tile_again c.requires.lawful_tile.0 Sheet (walked (goal.at.returns-in-Sheet c).After-walk_links) c.walk_sheet.ensures)
