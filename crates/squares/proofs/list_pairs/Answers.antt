-- `squares::list_pairs` meets its contract: squares from a list of 8s, flags from a list of 0s, and the flagged pairs packed.
-- Assumes nothing.
use native.Mathlib.Omega.{arith}
use lib.ListN.{get_or-replicate}
use Rattle.squares.proofs.Listing.{listed}
use Rattle.squares.proofs.list_pairs.Goals as goal

pub margined_squares-requires-clause-by_index : goal.margined_squares-requires-clause-by_index
margined_squares-requires-clause-by_index c = λ i h. get_or-replicate 4160 i 8 0 (omega (arith, h, c.requires.tile.grid.few))

pub flag_pairs-requires-clause-by_index : goal.flag_pairs-requires-clause-by_index
flag_pairs-requires-clause-by_index c = λ i h. get_or-replicate 4096 i 0 0 (omega (arith, h, c.requires.tile.grid.few))

pub returns : goal.returns
returns c =
    let packed = c.compress.ensures in
    let a = c.args in
    listed a.neighbours a.w a.heights.now a.labels.now
    c.margined_squares.new.sq c.flag_pairs.new.flags
    c.margined_squares.ensures c.flag_pairs.ensures
    c.requires.tile.grid packed.0 packed.1
