-- `stages::work_out` meets its contract: what each stage leaves is what the next one asks for, and all together is the network.
-- Assumes nothing.
use mathlib.Core.Path.{◌≡◌}
use native.Mathlib.Omega.{arith}
use lib.ListN.{length}
use Rattle.drainage.specs.Giving.{Ordered}
use Rattle.rules.specs.Land.{Land, rule_by}
use Rattle.rules.specs.Network.{receivers_by}
use Rattle.rules.specs.Tile.{tile_land}
use Rattle.stages.proofs.Stages.{ordered, worked}
use Rattle.walk.specs.Walk.{Lent, lent, LentHolds}
use Rattle.stages.proofs.work_out.Goals as goal
use Rattle.stages.proofs.work_out.Goals.{After-walk_by, Start}

abbrev land : After-walk_by → Land
land c = let a = c.args in tile_land (rule_by a.neighbours) a.w a.heights.now a.marks.now

-- the walk's lists, as it left them
abbrev after : After-walk_by → Lent
after c =
    lent c.walk_by.new.stack c.walk_by.new.order c.walk_by.new.receivers c.walk_by.new.levels c.walk_by.new.wets

-- they have room
room : (st : Start) → let a = st.args in
    LentHolds (length a.heights.now) (lent a.drainage.now a.order.now a.receivers.now a.levels.now a.wet.now)
room st =
    let h = st.requires.holds in
    record {
      fits_stack = h.drainage_holds;
      fits_order = h.order_holds;
      fits_receivers = h.receivers_hold;
      fits_levels = h.levels_hold;
      fits_wets = h.wet_holds;
    }

-- what the walk left is what drainage asks for
drainable : (c : After-walk_by)
    → let r = receivers_by c.args.manner (land c) in
    Ordered (land c) r (length c.args.water.now) (after c).order (after c).receivers
drainable c =
    ordered c.requires.lawful_tile.0 c.args.manner c.walk_by.ensures (length c.args.water.now) c.requires.lawful_tile.1

pub walk_by-requires : goal.walk_by-requires
walk_by-requires c =
    record {
      lawful_tile = (c.requires.lawful_tile.0, c.link_cells.auto.links);
      margin = c.link_cells.ensures.links_are;
      lent_holds = room (goal.at.walk_by-requires c).Start;
    }

pub drain-requires : goal.drain-requires
drain-requires c =
    let at-place = (goal.at.drain-requires c).After-walk_by in
    let k : length (after at-place).stack ≡ length c.args.drainage.now = c.walk_by.auto.stack in record {
      by_index = (land at-place, receivers_by c.args.manner (land at-place), drainable at-place);
      water_in_bounds = omega (arith, c.requires.lawful_tile.1, c.requires.holds.drainage_holds);
    }

pub returns : goal.returns
returns c =
    let a = c.args in
    let L = land (goal.at.returns c).After-walk_by in
    worked c.requires.lawful_tile.0 a.manner c.walk_by.ensures a.basins.now a.water.now (length a.water.now)
    c.requires.lawful_tile.1 c.link_cells.ensures.basins_are
    (c.drain.ensures L (receivers_by a.manner L) (drainable (goal.at.returns c).After-walk_by))
