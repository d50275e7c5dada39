-- `walk::walk_links` meets its contract: with the outlets' entries on the stack and heights in the place of levels the walk may begin
-- (Begins), and what it leaves of those lists it leaves of the lists before.
-- Assumes nothing.
use Rattle.std.proofs.Common.{◌≡◌, length, arith}
use Rattle.walk.proofs.Begins.{ready, walked_from}
use Rattle.walk.proofs.walk_links.Goals as goal

pub climb-requires : goal.climb-requires
climb-requires c =
    let p = c.push_outlets-top in let h = c.note_heights in
    let a = c.args in let M = c.requires.by_index.1 in let R = c.requires.lent_holds in
    let size : length p.new.stack ≡ length a.stack.now = p.auto.stack in
    let size-levels : length h.new.levels ≡ length a.levels.now = h.auto.levels in
    let f = R.fits_stack in let g = R.fits_levels in record {
      by_index = (
        a.marks.now,
        c.requires.by_index.0,
        M,
        ready M a.stack.now p.new.stack a.levels.now h.new.levels p.result.0 h.ensures p.ensures.0
            p.ensures.1 a.order.now a.receivers.now a.wets.now,
      );
      lent_holds = record {
        fits_stack = omega arith;
        fits_order = R.fits_order;
        fits_receivers = R.fits_receivers;
        fits_levels = omega arith;
        fits_wets = R.fits_wets;
      };
    }

pub returns : goal.returns
returns c =
    let a = c.args in
    let p = c.push_outlets-top in let h = c.note_heights in
    λ r M.
    walked_from M a.stack.now p.new.stack a.levels.now h.new.levels p.result.0 h.ensures p.ensures.0
    p.ensures.1
    (c.climb.ensures a.marks.now r M
    (ready M a.stack.now p.new.stack a.levels.now h.new.levels p.result.0 h.ensures p.ensures.0
    p.ensures.1 a.order.now a.receivers.now a.wets.now))
