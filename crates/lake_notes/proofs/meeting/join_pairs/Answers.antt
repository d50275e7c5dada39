-- `lake_notes::join_pairs` meets its contract: after i pairs the lists say what the pass over these says.
-- Assumes nothing.
use mathlib.Core.List.{[]}
use mathlib.Core.Path.{refl, ◌≡◌}
use native.Mathlib.Omega.{arith}
use lib.ListN.{length}
use Rattle.lake_notes.proofs.Climbs.{greater_on}
use Rattle.lake_notes.proofs.Turns.{as_long_none, turned_next}
use Rattle.lake_notes.proofs.meeting.join_pairs.Goals as goal

pub loop-p-init : goal.loop-p-init
loop-p-init c =
    (refl, omega arith, record { long = as_long_none _; size = c.requires.sized; so_far = c.requires.by_index })

pub join_pair-requires : goal.join_pair-requires
join_pair-requires c =
    let C = c.requires.climbing in
    let T = c.loop-p.invariant.2 in
    record {
      w_nonzero = (C.wide, C.narrow, C.few, greater_on C c.loop-p.p-index c.loop-p-test.true, (T.so_far []).groups.down);
      sized = T.size;
    }

pub loop-p-preserved : goal.loop-p-preserved
loop-p-preserved c =
    let met = c.join_pair in
    let C = c.requires.climbing in
    let more = c.loop-p-test.true in (
      refl,
      omega (arith, more),
      turned_next C c.loop-p.invariant.2 more met.ensures
          (record {
            group_long = c.join_pair.auto.group;
            lows_long = c.join_pair.auto.lows;
            flags_long = c.join_pair.auto.flags;
            parents_long = c.join_pair.auto.parents;
            joins_long = c.join_pair.auto.joins;
          }),
    )

pub returns : goal.returns
returns c =
    let a = c.args in
    let e : c.loop-p.p-index ≡ length a.list.now = omega arith in
    rw (← e) c.loop-p.invariant.2.so_far

pub shape_of-group : goal.shape_of-group
shape_of-group c = c.loop-p.invariant.2.long.group_long

pub shape_of-lows : goal.shape_of-lows
shape_of-lows c = c.loop-p.invariant.2.long.lows_long

pub shape_of-flags : goal.shape_of-flags
shape_of-flags c = c.loop-p.invariant.2.long.flags_long

pub shape_of-parents : goal.shape_of-parents
shape_of-parents c = c.loop-p.invariant.2.long.parents_long

pub shape_of-joins : goal.shape_of-joins
shape_of-joins c = c.loop-p.invariant.2.long.joins_long
