-- `spread::offer_both` meets its contract: one offer after the other, with room for both (Offers).
-- Assumes nothing.
use native.Mathlib.Omega.{arith}
use Rattle.spread.proofs.Offers.{both_made, both_room, second_room}
use Rattle.spread.specs.Wave.{wave, Wave}
use Rattle.spread.proofs.offer_both.Goals as goal
use Rattle.spread.proofs.offer_both.Goals.{Start}

abbrev entry : Start → Wave
entry st = wave st.args.counts.now st.args.queue.now st.args.tail.0

pub offer-tail-requires : goal.offer-tail-requires
offer-tail-requires c =
    let a = c.args in let (back, here, few, fits) = c.requires.step_le_here in
    let room = both_room a.back a.on a.count a.here a.step (entry (goal.at.offer-tail-requires c).Start) a.queue.now c.requires.room_past in
    (omega arith, omega arith, room.0, room.1, omega arith)

pub offer-requires : goal.offer-requires
offer-requires c =
    let a = c.args in let (back, here, few, fits) = c.requires.step_le_here in
    let room =
    second_room a.back a.on a.count a.here a.step (entry (goal.at.offer-requires c).Start) c.offer-tail.ensures a.queue.now c.offer-tail.new.queue
    c.offer-tail.auto.queue c.requires.room_past in
    let k = c.offer-tail.auto.counts in
    (omega arith, omega arith, room.0, room.1, omega arith)

pub returns : goal.returns
returns c =
    let a = c.args in
    both_made a.back a.on a.count a.here a.step (entry (goal.at.returns c).Start) c.offer-tail.ensures c.offer.ensures
