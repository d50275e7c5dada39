-- `squares::squares` meets its contract.
-- The squares of all rows but the last, the 8s that were there, and 13 where a row ends.
-- Assumes nothing.
use Rattle.squares.proofs.Listing.{squares_filled}
use Rattle.squares.proofs.squares.Goals as goal

pub returns : goal.returns
returns c =
    let a = c.args in
    squares_filled a.tile.neighbours a.tile.w a.tile.heights.now a.tile.labels.now c.requires.grid.0 c.requires.grid.1 c.requires.by_index
    c.begin_squares.ensures c.end_rows.ensures
