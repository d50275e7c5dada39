-- `stages::find_links` meets its contract: labels tell which links are added to those with first receivers.
-- Assumes nothing.
use mathlib.Core.Path.{sym, ◌≡◌}
use native.Mathlib.Omega.{arith}
use lib.ListN.{length}
use lib.Seq.{length-take-le}
use Rattle.stages.proofs.find_links.Goals as goal

pub slice_bounds-link_passes-end : goal.slice_bounds-link_passes-end
slice_bounds-link_passes-end c =
    let few = c.requires.lawful_tile.tile.grid.few in
    let left = c.label_cells in
    let l : length left.new.labels ≡ 4096 = left.auto.labels in
    sym (length-take-le (length c.args.heights.now) left.new.labels (omega arith))

pub link_passes-requires : goal.link_passes-requires
link_passes-requires c =
    (c.args.marks.now, c.label_cells.ensures.linkable)

pub returns : goal.returns
returns c =
    let labelled = c.label_cells.ensures in
    record { basins_are = labelled.basins_after; linkage = c.link_passes.ensures c.args.marks.now labelled.linkable }
