-- `lake_list::list_wet` meets its contract: what is gathered at the greatest height are the outermost lakes.
-- Assumes nothing.
use Prim.Native.Nat.{◌*◌, ◌+◌, ◌≤◌}
use native.Mathlib.Omega.{arith}
use lib.ListN.{length}
use Rattle.lake_list.proofs.WetLakes.{can_gather, found_in, outer, outer_count}
use Rattle.lake_list.proofs.list_wet.Goals as goal
use Rattle.lake_list.proofs.list_wet.Goals.{After-gather-count}

-- the cells were gathered
module _ (c : After-gather-count) where
  enough : 2 * length c.args.cells.now + 2 ≤ length c.gather-count.new.ends
  enough = omega (arith, c.requires.room.1, c.gather-count.auto.ends)

pub gather-count-requires-clause-gatherable : goal.gather-count-requires-clause-gatherable
gather-count-requires-clause-gatherable c = can_gather c.args.levels.now c.requires.noted_wet

pub list_outermost-requires : goal.list_outermost-requires
list_outermost-requires c =
    let K = c.requires.noted_wet in
    let R = c.requires.room.0 in
    let gi = c.gather-count.auto.index in
    let go = c.gather-count.auto.out in record {
      noted_lakes = outer c.args.levels.now K c.gather-count.ensures go R.spare_fits (enough (goal.at.list_outermost-requires c).After-gather-count);
      room = (
        record {
          spare_fits = omega (arith, go, R.spare_fits);
          index_fits = omega (arith, gi, R.index_fits);
          few = omega (arith, go, R.spare_fits, R.few);
          rows_fit = omega (arith, go, R.spare_fits, R.rows_fit);
        },
        outer_count c.args.levels.now K c.gather-count.ensures go R.spare_fits (enough (goal.at.list_outermost-requires c).After-gather-count),
        K.levels_hold,
      );
    }

pub returns : goal.returns
returns c =
    let go = c.gather-count.auto.out in
    λ K. found_in c.args.levels.now K c.gather-count.ensures go c.requires.room.0.spare_fits (enough (goal.at.returns c).After-gather-count)
    c.list_outermost.ensures
