-- `spread::flood` meets its contract. Between turns the cells before the queue's head were taken out (Breadth); a turn visits the next one
-- (Floods), and in the end each count is the fewest (Ends).
-- Assumes nothing.
use mathlib.Core.Path.{refl, ◌∙◌}
use native.Mathlib.Omega.{arith}
use lib.ListN.{length}
use Rattle.lists.specs.Lists.{at}
use Rattle.spread.proofs.Begins.{begin}
use Rattle.spread.proofs.Ends.{spread_all}
use Rattle.spread.proofs.Floods.{flood_room, flood_turn, numbers, Numbers}
use Rattle.spread.specs.Spread.{marked_in}
use Rattle.spread.specs.Wave.{wave}
use Rattle.spread.proofs.flood.Goals as goal
use Rattle.spread.proofs.flood.Goals.{In-loop-head}

-- where the loop goes on, the numbers of the turn
turn_numbers : (t : In-loop-head) → let a = t.args in
    let here = at t.loop-head.queue t.loop-head.head.0 in
    Numbers a.w (length a.masks.now) (length t.loop-head.counts) here (at t.loop-head.counts here) t.loop-head.head.0 t.loop-head.tail.0
turn_numbers t =
    let (E, P) = t.requires.by_index in
    numbers P t.loop-head.counts t.loop-head.queue t.loop-head.head.0 t.loop-head.tail.0 (t.loop-head.invariant.2 E P) t.loop-head-test.true

pub loop-head-init : goal.loop-head-init
loop-head-init c = (refl, refl, λ E P. begin P c.requires.packs)

pub bounds-queue-head : goal.bounds-queue-head
bounds-queue-head c =
    let q = c.requires.by_index.1.queue_room in let s = c.loop-head.invariant.1 in let w = c.loop-head-test.true in
    omega (arith, turn_numbers (goal.at.bounds-queue-head c).In-loop-head)

pub overflow_cast-here-in-loop-head : goal.overflow_cast-here-in-loop-head
overflow_cast-here-in-loop-head c = record { fits = omega (arith, turn_numbers (goal.at.overflow_cast-here-in-loop-head c).In-loop-head) }

pub overflow_sub-mask : goal.overflow_sub-mask
overflow_sub-mask c = omega (arith, turn_numbers (goal.at.overflow_sub-mask c).In-loop-head)

pub bounds-masks-here : goal.bounds-masks-here
bounds-masks-here c = omega (arith, turn_numbers (goal.at.bounds-masks-here c).In-loop-head)

pub offset_bounds-counts-here : goal.offset_bounds-counts-here
offset_bounds-counts-here c = record { fits = omega (arith, turn_numbers (goal.at.offset_bounds-counts-here c).In-loop-head) }

pub bounds-counts-here : goal.bounds-counts-here
bounds-counts-here c = omega (arith, turn_numbers (goal.at.bounds-counts-here c).In-loop-head)

pub overflow_add-count : goal.overflow_add-count
overflow_add-count c = let w = c.loop-head-test.true in record { fits = omega (arith, turn_numbers (goal.at.overflow_add-count c).In-loop-head) }

pub visit-tail-requires : goal.visit-tail-requires
visit-tail-requires c =
    let K = turn_numbers (goal.at.visit-tail-requires c).In-loop-head in let (E, P) = c.requires.by_index in record {
      w_nonzero = (K.wide, K.narrow, K.margin, omega (arith, K), omega (arith, K));
      room_past = flood_room P c.loop-head.counts c.loop-head.queue c.loop-head.head.0 c.loop-head.tail.0 (c.loop-head.invariant.2 E P)
          c.loop-head-test.true c.loop-head.invariant.1;
    }

pub overflow_add-head : goal.overflow_add-head
overflow_add-head c =
    let w = c.loop-head-test.true in
    record { fits = omega (arith, turn_numbers (goal.at.overflow_add-head c).In-loop-head) }

pub loop-head-smaller : goal.loop-head-smaller
loop-head-smaller c =
    let w = c.loop-head-test.true in let K = turn_numbers (goal.at.loop-head-smaller c).In-loop-head in let m = K.tail_few in
    omega arith

pub loop-head-preserved : goal.loop-head-preserved
loop-head-preserved c = (
  c.visit-tail.auto.counts ∙ c.loop-head.invariant.0,
  c.visit-tail.auto.queue ∙ c.loop-head.invariant.1,
  λ E P.
      flood_turn P c.loop-head.counts c.loop-head.queue c.loop-head.head.0 c.loop-head.tail.0 (c.loop-head.invariant.2 E P) c.loop-head-test.true
      c.visit-tail.ensures,
)

pub shape_of-counts : goal.shape_of-counts
shape_of-counts c = c.loop-head.invariant.0

pub shape_of-queue : goal.shape_of-queue
shape_of-queue c = c.loop-head.invariant.1

pub returns : goal.returns
returns c =
    let a = c.args in
    λ E P. spread_all (length a.masks.now) E (marked_in a.counts.now) a.counts.now c.loop-head.head.0
    (wave c.loop-head.counts c.loop-head.queue c.loop-head.tail.0) (c.loop-head.invariant.2 E P) c.loop-head-test.false
