-- `alike::like_masks` meets its contract: the bits of a cell's mask that pass the test are the mask of the neighbours with its label.
-- Assumes nothing.
use lib.ListN.{length}
use borrow.Author.Rules.{rules}
use Rattle.alike.proofs.Like.{like_narrowed}
use Rattle.alike.specs.NeighbourMasks.{like_mask}
use Rattle.alike.proofs.like_masks.Goals as goal

pub returns : goal.returns
returns c =
    let a = c.args in
    c.fill.ensures (like_mask a.neighbours a.w (length a.masks.now) a.labels.now)
    (λ k h y e. like_narrowed c.requires.grid.0.rows a.neighbours a.labels.now k (c.requires.grid.1 k h) (search rules))
