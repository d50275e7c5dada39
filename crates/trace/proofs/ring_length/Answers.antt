-- `trace::ring_length` meets its contract. The invariant of its loop: the cell is as many moves from home as were made, and none before
-- it was home. The measure is what is left of the list's length, so there are no more moves than entries.
-- Assumes nothing.
use mathlib.Core.Bool.{false}
use mathlib.Core.Path.{ap, refl, sym, ◌∙◌, ◌≡◌}
use Prim.Native.Nat.{suc, ◌+◌, ◌<◌, ◌≤◌}
use native.Mathlib.Nat.{not-suc-le-zero}
use native.Mathlib.Numerals.{add-one}
use native.Mathlib.Omega.{arith}
use lib.ListN.{length}
use borrow.Author.Count.{below_more}
use borrow.Author.Tests.{eq-eqb, ne_eqb}
use Rattle.lists.proofs.Find.{find_at}
use Rattle.lists.proofs.Repeat.{repeat-last}
use Rattle.lists.specs.Find.{NoneBelow}
use Rattle.lists.specs.Lists.{at, repeat}
use Rattle.trace.proofs.Ring.{not_yet}
use Rattle.trace.specs.Ring.{back_after}
use Rattle.trace.proofs.ring_length.Goals as goal
use Rattle.trace.proofs.ring_length.Goals.{In-loop-cell}

on_list : (c : In-loop-cell)
    → let r = c.args.receivers.now in
    (c.loop-cell.cell < length r) × (length r ≤ 4096)
on_list c =
    (omega (arith, c.requires.stays (suc c.loop-cell.more)), c.requires.few)

pub bounds-receivers-home : goal.bounds-receivers-home
bounds-receivers-home c = omega (arith, c.requires.stays 0)

pub loop-cell-init : goal.loop-cell-init
loop-cell-init c = (refl, λ k l. absurd (not-suc-le-zero l), omega (arith, c.requires.stays 0))

pub loop-cell-preserved : goal.loop-cell-preserved
loop-cell-preserved c =
    let r = c.args.receivers.now in
    let h = c.args.home.0 in
    let k = c.loop-cell.more in
    let away : NoneBelow (back_after r h) (k + 1) =
    below_more (λ j. back_after r h j ≡ false) k c.loop-cell.invariant.1
    (ne_eqb (repeat (suc k) (at r) h) h (λ e. c.loop-cell-test.true (c.loop-cell.invariant.0 ∙ e))) in
    (ap (at r) c.loop-cell.invariant.0 ∙ rw add-one (sym (repeat-last (at r) (suc k) h)), away, not_yet r h (k + 1) c.requires away)

pub returns : goal.returns
returns c =
    let r = c.args.receivers.now in
    let h = c.args.home.0 in
    let k = c.loop-cell.more in
    add-one k
    ∙ ap suc
    (sym
    (find_at (back_after r h) (length r) k c.loop-cell.invariant.2 c.loop-cell.invariant.1
    (eq-eqb (repeat (suc k) (at r) h) h (sym c.loop-cell.invariant.0 ∙ c.loop-cell-test.false))))

pub overflow_cast-cell-in-loop-cell : goal.overflow_cast-cell-in-loop-cell
overflow_cast-cell-in-loop-cell c = omega (arith, on_list (goal.at.overflow_cast-cell-in-loop-cell c).In-loop-cell)

pub offset_bounds-receivers-cell : goal.offset_bounds-receivers-cell
offset_bounds-receivers-cell c = omega (arith, on_list (goal.at.offset_bounds-receivers-cell c).In-loop-cell)

pub bounds-receivers-cell : goal.bounds-receivers-cell
bounds-receivers-cell c = omega (arith, on_list (goal.at.bounds-receivers-cell c).In-loop-cell)
