-- `spread::visit` meets its contract: pairs of places, one after the other, are all offers (Pairs).
-- Assumes nothing.
use mathlib.Core.Path.{◌∙◌}
use native.Mathlib.Omega.{arith}
use Rattle.spread.proofs.Pairs.{columns_room, eight_all, falling_room, four_all, rising_room, rows_room}
use Rattle.spread.specs.Wave.{wave, Wave}
use Rattle.spread.proofs.visit.Goals as goal
use Rattle.spread.proofs.visit.Goals.{After-offer_both-tail, Start}

abbrev entry : Start → Wave
entry st = wave st.args.counts.now st.args.queue.now st.args.tail.0

abbrev after : After-offer_both-tail → Wave
after one = wave one.offer_both-tail.new.counts one.offer_both-tail.new.queue one.offer_both-tail.result.0

pub offer_both-tail-requires : goal.offer_both-tail-requires
offer_both-tail-requires c =
    let a = c.args in let (wide, narrow, margin, on, fits) = c.requires.w_nonzero in record {
      step_le_here = (omega arith, omega arith, omega arith, omega arith);
      room_past = columns_room a.w a.here a.mask a.count wide narrow margin a.neighbours (entry (goal.at.offer_both-tail-requires c).Start) a.queue.now
          c.requires.room_past;
    }

pub offer_both-tail-requires-2 : goal.offer_both-tail-requires-2
offer_both-tail-requires-2 c =
    let a = c.args in let (wide, narrow, margin, on, fits) = c.requires.w_nonzero in
    let k = c.offer_both-tail.auto.counts in record {
      step_le_here = (omega arith, omega arith, omega arith, omega arith);
      room_past = rows_room a.w a.here a.mask a.count wide narrow margin a.neighbours (entry (goal.at.offer_both-tail-requires-2 c).Start)
          c.offer_both-tail.ensures
          a.queue.now c.offer_both-tail.new.queue c.offer_both-tail.auto.queue c.requires.room_past;
    }

pub offer_both-tail-requires-in-Eight : goal.offer_both-tail-requires-in-Eight
offer_both-tail-requires-in-Eight c =
    let a = c.args in let (wide, narrow, margin, on, fits) = c.requires.w_nonzero in
    let eight = c.in-Eight.is in
    let k = c.offer_both-tail-2.auto.counts ∙ c.offer_both-tail.auto.counts in record {
      step_le_here = (omega arith, omega arith, omega arith, omega arith);
      room_past = rising_room a.w a.here a.mask a.count wide narrow margin a.neighbours (entry (goal.at.offer_both-tail-requires-in-Eight c).Start)
          c.offer_both-tail.ensures
          c.offer_both-tail-2.ensures eight a.queue.now c.offer_both-tail-2.new.queue
          (c.offer_both-tail-2.auto.queue ∙ c.offer_both-tail.auto.queue) c.requires.room_past;
    }

pub overflow_add-w : goal.overflow_add-w
overflow_add-w c =
    let narrow = c.requires.w_nonzero.1 in
    record { fits = omega arith }

pub offer_both-requires : goal.offer_both-requires
offer_both-requires c =
    let a = c.args in let (wide, narrow, margin, on, fits) = c.requires.w_nonzero in
    let eight = c.in-Eight.is in
    let k = c.offer_both-tail-in-Eight.auto.counts ∙ c.offer_both-tail-2.auto.counts ∙ c.offer_both-tail.auto.counts in record {
      step_le_here = (omega arith, omega arith, omega arith, omega arith);
      room_past = falling_room a.w a.here a.mask a.count wide narrow margin a.neighbours (entry (goal.at.offer_both-requires c).Start) c.offer_both-tail.ensures
          c.offer_both-tail-2.ensures eight c.offer_both-tail-in-Eight.ensures a.queue.now c.offer_both-tail-in-Eight.new.queue
          (c.offer_both-tail-in-Eight.auto.queue ∙ c.offer_both-tail-2.auto.queue ∙ c.offer_both-tail.auto.queue) c.requires.room_past;
    }

pub returns-in-Four : goal.returns-in-Four
returns-in-Four c =
    let a = c.args in let (wide, narrow, margin, on, fits) = c.requires.w_nonzero in
    four_all a.w a.here a.mask a.count wide narrow margin a.neighbours (entry (goal.at.returns-in-Four c).Start) c.offer_both-tail.ensures
    c.offer_both-tail-2.ensures c.in-Four.is

pub returns-in-Eight : goal.returns-in-Eight
returns-in-Eight c =
    let a = c.args in let (wide, narrow, margin, on, fits) = c.requires.w_nonzero in
    let eight = c.in-Eight.is in
    eight_all a.w a.here a.mask a.count wide narrow margin a.neighbours (entry (goal.at.returns-in-Eight c).Start)
    {s₁ = after (goal.at.returns-in-Eight c).After-offer_both-tail}
    c.offer_both-tail.ensures c.offer_both-tail-2.ensures eight c.offer_both-tail-in-Eight.ensures c.offer_both.ensures
