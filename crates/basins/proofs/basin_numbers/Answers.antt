-- `basins::basin_numbers` meets its contract.
-- Counted, led to the singular cells, looked up: each cell gets the count at its singular cell, which is the number of its basin.
-- Assumes nothing.
use mathlib.Core.List.{List}
use Prim.Native.Nat.{ℕ}
use native.Mathlib.Omega.{arith}
use lib.ListN.{replicate}
use Rattle.basins.proofs.Numbered.{labelled, numbered, singular-within}
use Rattle.basins.proofs.basin_numbers.Goals as goal

pub look_up-requires-clause-n_in_bounds : goal.look_up-requires-clause-n_in_bounds
look_up-requires-clause-n_in_bounds c =
    let cells = c.singular_cells in
    let (L, F) = c.requires.first_receivers in (
      omega (arith, F.few, c.number_basins.auto.numbers),
      omega (arith, F.room, cells.auto.entries),
      singular-within L c.args.n c.args.entries.now F cells.new.entries (cells.ensures L F),
    )

pub returns : goal.returns
returns c =
    let n = c.args.n in
    let entries = c.args.entries.now in
    let zeros : List ℕ = replicate 4096 0 in
    let counts = c.number_basins in
    let cells = c.singular_cells in
    let found = c.look_up in
    record {
      numbers_are = λ L F. numbered L n entries F counts.new.numbers cells.new.entries found.new.entries zeros counts.ensures
          (cells.ensures L F) found.ensures.entries_after;
      labels_are = λ L F. labelled L n entries F c.args.marks.now counts.new.numbers cells.new.entries found.new.labels zeros
          c.args.labels.now counts.ensures (cells.ensures L F) found.ensures.labels_after;
    }
