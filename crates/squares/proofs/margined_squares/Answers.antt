-- `squares::margined_squares` meets its contract.
-- The squares fill the part after the margin, and the margin is as it was.
-- Assumes nothing.
use Rattle.squares.proofs.Listing.{part_eights, squares_margined}
use Rattle.squares.proofs.margined_squares.Goals as goal

pub squares-requires-clause-by_index : goal.squares-requires-clause-by_index
squares-requires-clause-by_index c =
    let a = c.args in
    part_eights a.tile.neighbours a.tile.w a.tile.heights.now a.tile.labels.now a.sq.now c.requires.grid.1 c.requires.by_index

pub returns : goal.returns
returns c =
    let a = c.args in
    squares_margined a.tile.neighbours a.tile.w a.tile.heights.now a.tile.labels.now a.sq.now c.requires.grid.1 c.requires.by_index _ c.squares.ensures
