-- `trace::cell_after` meets its contract: after each turn the cell is one move further.
-- Assumes nothing.
use mathlib.Core.Path.{ap, sym, ◌∙◌, ◌≡◌}
use Prim.Native.Nat.{◌<◌}
use native.Mathlib.Numerals.{add-one}
use native.Mathlib.Omega.{arith}
use lib.ListN.{length}
use borrow.Author.Rules.{rules}
use Rattle.lists.proofs.Repeat.{repeat-last}
use Rattle.lists.specs.Lists.{at}
use Rattle.trace.proofs.cell_after.Goals as goal
use Rattle.trace.proofs.cell_after.Goals.{In-loop}

on_list : (c : In-loop) → c.loop.cell < length c.args.receivers.now
on_list c = omega (arith, c.loop.invariant.1, c.requires.0 c.loop.counter)

pub loop-preserved : goal.loop-preserved
loop-preserved c =
    let r = c.args.receivers.now in
    let h = c.args.start.0 in (
      search rules,
      ap (at r) c.loop.invariant.1 ∙ rw add-one (sym (repeat-last (at r) c.loop.counter h)),
    )

pub returns : goal.returns
returns c =
    let a = c.args in
    let e : c.loop.counter ≡ a.moves = omega arith in
    c.loop.invariant.1 ∙ rw e

pub overflow_cast-cell : goal.overflow_cast-cell
overflow_cast-cell c = omega (arith, on_list (goal.at.overflow_cast-cell c).In-loop)

pub offset_bounds-receivers-cell : goal.offset_bounds-receivers-cell
offset_bounds-receivers-cell c = omega (arith, on_list (goal.at.offset_bounds-receivers-cell c).In-loop)

pub bounds-receivers-cell : goal.bounds-receivers-cell
bounds-receivers-cell c = omega (arith, on_list (goal.at.bounds-receivers-cell c).In-loop)
