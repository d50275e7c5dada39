-- `lake_notes::flag_meeting` meets its contract: the two tests in their order, and the higher cell.
-- Assumes nothing.
use Prim.Native.Nat.{◌<◌, ◌≤◌}
use native.Mathlib.Omega.{arith}
use borrow.Author.Tests.{le-ltb, lt-ltb}
use Rattle.lake_notes.specs.Meeting.{pair_top}
use Rattle.lists.specs.Lists.{at}
use Rattle.lake_notes.proofs.meeting.flag_meeting.Goals as goal

pub returns-then-h-lows : goal.returns-then-h-lows
returns-then-h-lows c =
    let a = c.args in
    let t = pair_top (at a.heights.now) a.a.0 a.b.0 in
    rw (le-ltb (at a.lows.now a.r.0) t (omega (arith, c.requires.r_in_bounds.2, rw c.index.ensures.0 at c.if-h-lows.true)))

pub returns-then-h-lows-2 : goal.returns-then-h-lows-2
returns-then-h-lows-2 c =
    let a = c.args in
    let t = pair_top (at a.heights.now) a.a.0 a.b.0 in
    let one : at a.lows.now a.r.0 < t = omega (arith, c.requires.r_in_bounds.2, rw c.index.ensures.0 at c.if-h-lows.false) in
    let other : t ≤ at a.lows.now a.s.0 = omega (arith, c.requires.r_in_bounds.2, rw c.index-2.ensures.0 at c.if-h-lows-2.true) in
    rw (lt-ltb (at a.lows.now a.r.0) t one, le-ltb (at a.lows.now a.s.0) t other)

pub returns : goal.returns
returns c =
    let a = c.args in
    let t = pair_top (at a.heights.now) a.a.0 a.b.0 in
    let one : at a.lows.now a.r.0 < t = omega (arith, c.requires.r_in_bounds.2, rw c.index.ensures.0 at c.if-h-lows.false) in
    let other : at a.lows.now a.s.0 < t = omega (arith, c.requires.r_in_bounds.2, rw c.index-2.ensures.0 at c.if-h-lows-2.false) in
    rw (lt-ltb (at a.lows.now a.r.0) t one, lt-ltb (at a.lows.now a.s.0) t other, c.index-3.ensures.0, c.higher_of-c.ensures.0)
