-- `record_stages::link_record` meets its contract: what is read is a tile of the ground, and its cells are linked.
-- Assumes nothing.
use mathlib.Core.List.{List, map}
use mathlib.Core.Path.{sym, ◌∙◌, ◌≡◌}
use Prim.Native.Nat.{ℕ, ◌*◌}
use native.Mathlib.Omega.{arith}
use lib.ListN.{length, take}
use Rattle.ground.specs.Record.{ground_in}
use Rattle.record_stages.proofs.LinkedRecord.{linked_record, read_basins, read_full, read_tile}
use Rattle.record_stages.proofs.Reading.{in_range-at, heights_are}
use Rattle.rules.specs.Ground.{lifted}
use Rattle.record_stages.proofs.link_record.Goals as goal
use Rattle.record_stages.proofs.link_record.Goals.{After-lift_record}

-- N, as it was counted
abbrev count : After-lift_record → ℕ
count c = c.cells-n.result

counted : (c : After-lift_record) → count c ≡ c.args.size.height * c.args.size.width
counted c = c.cells-n.ensures

-- the lifted heights, as they were left
abbrev heights : After-lift_record → List ℕ
heights c = c.lift_record.new.out

heights_read : (c : After-lift_record)
    → let a = c.args in
    take (count c) (heights c) ≡ map lifted (ground_in a.bytes.now a.size.width a.size.height).heights
heights_read c =
    let a = c.args in
    heights_are a.bytes.now a.size.width a.size.height c.requires.readable.good a.lifted.now (count c) (counted c) c.lift_record.ensures

heights-long : (c : After-lift_record) → length (take (count c) (heights c)) ≡ c.args.size.height * c.args.size.width
heights-long c =
    let a = c.args in
    read_full a.neighbours a.bytes.now a.size.width a.size.height c.requires.readable.good (count c) (counted c) (heights c) (heights_read c)

pub lift_record-requires : goal.lift_record-requires
lift_record-requires c =
    let a = c.args in
    let R = c.requires.readable in
    let z = c.cells-n.ensures in
    let fits = c.requires.width_in_bounds.0 in
    (omega arith, omega arith, in_range-at a.bytes.now a.size.width a.size.height R.good c.cells-n.result z)

pub slice_bounds-link_cells-end-2 : goal.slice_bounds-link_cells-end-2
slice_bounds-link_cells-end-2 c =
    let at-place = (goal.at.slice_bounds-link_cells-end-2 c).After-lift_record in
    counted at-place ∙ sym (heights-long at-place)

pub link_cells-requires : goal.link_cells-requires
link_cells-requires c =
    let at-place = (goal.at.link_cells-requires c).After-lift_record in
    let a = c.args in
    let s = a.bytes.now in
    let G = c.requires.readable.good in
    let n = count at-place in
    let z = counted at-place in
    let long = heights-long at-place in
    let room = c.requires.width_in_bounds in record {
      lawful_tile = read_tile a.neighbours s a.size.width a.size.height G n z (heights at-place) (heights_read at-place);
      heights_in_bounds = (omega (arith, long, room.1), room.2);
    }

pub returns : goal.returns
returns c =
    let at-place = (goal.at.returns c).After-lift_record in
    let a = c.args in
    let s = a.bytes.now in
    let G = c.requires.readable.good in
    let n = count at-place in
    let z = counted at-place in
    let t = heights_read at-place in
    let found = c.link_cells.ensures in
    record {
      linked = linked_record a.neighbours s a.size.width a.size.height G n z (heights at-place) t found.links_are;
      basins_are = read_basins a.neighbours s a.size.width a.size.height G n z (heights at-place) t a.basins.now found.basins_are;
    }
