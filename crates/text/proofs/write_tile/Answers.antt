-- `text::write_tile` meets its contract: the three parts are written one after the other, and there is room for any text.
-- Assumes nothing.
use mathlib.Core.Path.{refl}
use native.Mathlib.Omega.{arith}
use lib.Seq.{length-take-le}
use Rattle.text.proofs.Lengths.{Entries, Parts, parts_fit}
use Rattle.text.proofs.Writing.{printed, wrote_then}
use Rattle.text.proofs.write_tile.Goals as goal
use Rattle.text.proofs.write_tile.Goals.{After-shared_slice_known-5-1}

-- how long the text's three parts can be: the entries' bounds are those of their types
parts : (k : After-shared_slice_known-5-1)
    → let a = k.args in
    Parts a.width a.height a.n a.receivers.now a.levels.now a.drainage.now a.marks.now a.water.now
parts k =
    let a = k.args in
    let e : Entries a.receivers.now a.drainage.now a.water.now =
    record {
      receivers_16 = λ c. omega (arith, k.shared_slice_known-1.given c);
      drainage_32 = λ c. omega (arith, k.shared_slice_known-3-1.given c);
      water_16 = λ c. omega (arith, k.shared_slice_known-5-1.given c);
    } in
    parts_fit a.width a.height a.n a.receivers.now a.levels.now a.drainage.now a.marks.now a.water.now
    a.text.now k.requires e

pub write_size-first-requires : goal.write_size-first-requires
write_size-first-requires c = omega (arith, (parts (goal.at.write_size-first-requires c).After-shared_slice_known-5-1).size)

pub write_cells-last-requires : goal.write_cells-last-requires
write_cells-last-requires c =
    let p = c.requires in
    record {
      few = (parts (goal.at.write_cells-last-requires c).After-shared_slice_known-5-1).few;
      receivers_hold = p.receivers_hold;
      levels_hold = p.levels_hold;
      drainage_holds = p.drainage_holds;
      room = omega (
        arith,
        (parts (goal.at.write_cells-last-requires c).After-shared_slice_known-5-1).size,
        (parts (goal.at.write_cells-last-requires c).After-shared_slice_known-5-1).cells,
        c.write_size-first.ensures.end,
        p.room,
      );
    }

pub outlet_drainage-out-requires : goal.outlet_drainage-out-requires
outlet_drainage-out-requires c =
    let p = c.requires in
    ((parts (goal.at.outlet_drainage-out-requires c).After-shared_slice_known-5-1).few, p.drainage_holds, p.marks_hold)

pub total_water-rain-requires : goal.total_water-rain-requires
total_water-rain-requires c =
    let few = (parts (goal.at.total_water-rain-requires c).After-shared_slice_known-5-1).few in
    omega (arith, few, length-take-le c.args.n c.args.water.now c.requires.water_holds)

pub write_sums-requires : goal.write_sums-requires
write_sums-requires c =
    let p = parts (goal.at.write_sums-requires c).After-shared_slice_known-5-1 in
    let room = c.requires.room in
    rw (c.total_water-rain.ensures, c.outlet_drainage-out.ensures)
    (omega (arith, p.size, p.cells, p.sums, c.write_size-first.ensures.end, c.write_cells-last.ensures.end))

pub returns : goal.returns
returns c =
    let sums = rw (c.total_water-rain.ensures, c.outlet_drainage-out.ensures) at c.write_sums.ensures in
    printed (wrote_then c.write_size-first.ensures (wrote_then c.write_cells-last.ensures sums refl)
    (parts (goal.at.returns c).After-shared_slice_known-5-1).text)
