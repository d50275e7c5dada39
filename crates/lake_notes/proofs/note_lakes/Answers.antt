-- `lake_notes::note_lakes` meets its contract: the wet cells are listed, their pairs are listed and sorted, and the pass over these leaves
-- the notes.
-- Assumes nothing.
use mathlib.Core.Path.{ap, sym, ◌∙◌}
use native.Mathlib.Omega.{arith}
use lib.ListN.{length}
use lib.Seq.{length-take-le}
use Rattle.lake_notes.proofs.Climbs.{climbed_notes}
use Rattle.lake_notes.proofs.WetCells.{wet_below_lem}
use Rattle.lake_notes.proofs.note_lakes.Goals as goal

pub wet_cells-count-requires : goal.wet_cells-count-requires
wet_cells-count-requires c =
    (c.requires.levelled.grid.few, c.requires.levelled.levels_hold, c.requires.heights_in_bounds.0)

pub climbing_pairs-pairs-requires : goal.climbing_pairs-pairs-requires
climbing_pairs-pairs-requires c =
    (c.requires.levelled, omega (arith, c.requires.levelled.grid.few))

pub slice_bounds-join_all-end : goal.slice_bounds-join_all-end
slice_bounds-join_all-end c =
    let pairs = c.climbing_pairs-pairs in
    sym (length-take-le pairs.result pairs.new.list pairs.ensures.0)

pub join_all-requires : goal.join_all-requires
join_all-requires c =
    record {
      climbing = (c.climbing_pairs-pairs.ensures.1.climbing, c.requires.heights_in_bounds.1);
      heights_in_bounds = (c.requires.heights_in_bounds.2, c.requires.heights_in_bounds.3);
    }

pub returns : goal.returns
returns c =
    let all = c.join_all.ensures in
    let cells = c.wet_cells-count.ensures in
    let a = c.args in
    λ marks.
    let e = wet_below_lem a.w a.heights.now a.levels.now marks in
    record {
      count_is = cells.0 ∙ ap length e;
      cells_are = rw (← e) cells.1;
      notes = climbed_notes c.requires.levelled.grid c.climbing_pairs-pairs.ensures.1 marks (all.so_far marks) all.sized;
    }
