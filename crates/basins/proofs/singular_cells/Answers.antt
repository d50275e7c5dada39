-- `basins::singular_cells` meets its contract.
-- Before each round every entry leads so many steps along the first way, or further. As many steps as cells lead to the singular cell;
-- and where a round moves nothing each entry leads to one that stays, which is singular. The count of steps doubles.
-- Assumes nothing.
use mathlib.Core.Path.{sym, ◌∙◌}
use native.Mathlib.Omega.{arith}
use Rattle.basins.proofs.Settled.{leading_next, leading_start, settled_far, settled_still}
use Rattle.basins.proofs.singular_cells.Goals as goal
use Rattle.basins.proofs.singular_cells.Goals.{In-loop-steps}

pub loop-steps-init : goal.loop-steps-init
loop-steps-init c = leading_start c.requires.0 c.args.n c.args.entries.now c.requires.1

pub returns-then-not-moved : goal.returns-then-not-moved
returns-then-not-moved c =
    let j = c.jump-moved in
    λ L F. j.ensures.0 ∙ settled_still c.args.n c.args.entries.now c.loop-steps.entries c.loop-steps.steps F.room
    c.loop-steps.invariant L F
    (sym j.ensures.1 ∙ c.if-not-moved.true)

pub loop-steps-preserved : goal.loop-steps-preserved
loop-steps-preserved c =
    let j = c.jump-moved in
    rw j.ensures.0
    (leading_next c.args.n c.args.entries.now c.loop-steps.entries c.loop-steps.steps c.requires.1.room c.loop-steps.invariant)

pub returns : goal.returns
returns c =
    λ L F. settled_far c.args.n c.args.entries.now c.loop-steps.entries c.loop-steps.steps F.room c.loop-steps.invariant L F
    (omega arith)
