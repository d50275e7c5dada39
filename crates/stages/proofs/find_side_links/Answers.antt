-- `stages::find_side_links` meets its contract: as `find_links` does, with four neighbours.
-- Assumes nothing.
use mathlib.Core.Path.{sym, ◌≡◌}
use native.Mathlib.Omega.{arith}
use lib.ListN.{length}
use lib.Seq.{length-take-le}
use Rattle.stages.proofs.find_side_links.Goals as goal

pub slice_bounds-link_in_room-end : goal.slice_bounds-link_in_room-end
slice_bounds-link_in_room-end c =
    let few = c.requires.lawful_tile.tile.grid.few in
    let left = c.label_cells in
    let l : length left.new.labels ≡ 4096 = left.auto.labels in
    sym (length-take-le (length c.args.heights.now) left.new.labels (omega arith))

pub link_in_room-requires : goal.link_in_room-requires
link_in_room-requires c = record {
  by_index = (c.args.marks.now, c.label_cells.ensures.linkable);
  room = (omega (arith, c.requires.lawful_tile.tile.grid.few), omega arith);
}

pub returns : goal.returns
returns c =
    let labelled = c.label_cells.ensures in
    record { basins_are = labelled.basins_after; linkage = c.link_in_room.ensures c.args.marks.now labelled.linkable }
