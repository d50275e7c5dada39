-- `basins::jump` meets its contract.
-- After c turns the list is what c jumps make of it, and the answer says whether one of them moved an entry.
-- Assumes nothing.
use mathlib.Core.Path.{sym, ◌∙◌}
use Prim.Native.Nat.{◌<◌}
use native.Mathlib.Omega.{arith}
use Rattle.basins.proofs.Rounds.{jumped-next, jumped-none, moved_next, moved_none, moved_or, turned}
use Rattle.basins.specs.Jumps.{any_moved}
use Rattle.lists.specs.Lists.{at}
use Rattle.basins.proofs.jump.Goals as goal
use Rattle.basins.proofs.jump.Goals.{In-loop-c}

-- the entry at this turn's cell is a cell
in_tile : (c : In-loop-c) → at c.loop-c.entries c.loop-c.c < c.args.n
in_tile c =
    let T = turned c.args.n c.args.entries.now c.loop-c.c c.requires.0 c.requires.1 c.loop-c.auto.c-end in
    rw c.loop-c.invariant.0 (T.inside c.loop-c.c c.loop-c-test.true)

pub loop-c-init : goal.loop-c-init
loop-c-init c = (sym (jumped-none _), sym (moved_none _))

pub bounds-entries-from : goal.bounds-entries-from
bounds-entries-from c =
    omega (arith, in_tile (goal.at.bounds-entries-from c).In-loop-c, c.from.ensures, c.requires.0, c.loop-c.auto.entries)

pub loop-c-preserved : goal.loop-c-preserved
loop-c-preserved c =
    let i = c.loop-c.invariant in (
      rw (c.from.ensures, i.0) (sym (jumped-next c.loop-c.c c.args.entries.now)),
      rw (c.from.ensures, i.0, i.1)
          (moved_or (any_moved c.loop-c.c c.args.entries.now) _ _ ∙ sym (moved_next c.loop-c.c c.args.entries.now)),
    )
