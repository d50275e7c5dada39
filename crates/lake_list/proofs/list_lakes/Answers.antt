-- `lake_list::list_lakes` meets its contract: the wet cells are noted at the start of a list, and their lakes are listed.
-- Assumes nothing.
use mathlib.Core.List.{List}
use mathlib.Core.Path.{sym, ◌∙◌, ◌≡◌}
use Prim.Native.Nat.{ℕ, ◌≤◌}
use native.Mathlib.Omega.{arith}
use lib.ListN.{length, length-replicate, replicate, take}
use lib.Seq.{length-take-le}
use Rattle.lake_list.proofs.WetLakes.{found_noted, noted_few, noted-wet}
use Rattle.rules.specs.Land.{Land, rule4}
use Rattle.rules.specs.Tile.{tile_land}
use Rattle.lake_list.proofs.list_lakes.Goals as goal
use Rattle.lake_list.proofs.list_lakes.Goals.{After-note_lakes-count}

-- the wet cells were noted: there are no more of them than a tile has cells
module _ (c : After-note_lakes-count) where
  abbrev land : List ℕ → Land
  land marks = tile_land rule4 c.args.w c.args.heights.now marks

  few : c.note_lakes-count.result ≤ length c.args.heights.now
  few = (noted_few (land c.requires.heights_in_bounds.1.0) c.requires.levelled (c.note_lakes-count.ensures c.requires.heights_in_bounds.1.0)).0

  cells_few : length c.args.heights.now ≤ 4096
  cells_few = (noted_few (land c.requires.heights_in_bounds.1.0) c.requires.levelled (c.note_lakes-count.ensures c.requires.heights_in_bounds.1.0)).1

  all_there : c.note_lakes-count.result ≤ length c.note_lakes-count.new.cells
  all_there = omega (arith, few, cells_few, c.note_lakes-count.auto.cells)

  cells-long : length (take c.note_lakes-count.result c.note_lakes-count.new.cells) ≡ c.note_lakes-count.result
  cells-long = length-take-le c.note_lakes-count.result c.note_lakes-count.new.cells all_there

  spare-long : length (take c.note_lakes-count.result (replicate {A = ℕ} 4096 0)) ≡ c.note_lakes-count.result
  spare-long =
      length-take-le c.note_lakes-count.result (replicate {A = ℕ} 4096 0) (omega (arith, few, cells_few, length-replicate {A = ℕ} 4096 0))

pub list_wet-requires : goal.list_wet-requires
list_wet-requires c =
    let n = (goal.at.list_wet-requires c).After-note_lakes-count in
    let p = c.requires.heights_in_bounds in
    let a = cells-long n in
    let e = length-replicate {A = ℕ} 4096 0 in
    let i = length-replicate {A = ℕ} 8194 0 in record {
      noted_wet = noted-wet (land n p.1.0) c.requires.levelled (c.note_lakes-count.ensures p.1.0) p.1.1;
      room = (
        record {
          spare_fits = spare-long n ∙ sym a;
          index_fits = omega (arith, cells_few n);
          few = omega (arith, few n, cells_few n);
          rows_fit = omega (arith, few n, p.0);
        },
        omega (arith, few n, cells_few n),
      );
    }

pub returns : goal.returns
returns c =
    λ marks K. found_noted (land (goal.at.returns c).After-note_lakes-count marks) c.requires.levelled (c.note_lakes-count.ensures marks) c.list_wet.ensures K

pub slice_bounds-cells-end : goal.slice_bounds-cells-end
slice_bounds-cells-end c = all_there (goal.at.slice_bounds-cells-end c).After-note_lakes-count

pub slice_bounds-list_wet-end-4 : goal.slice_bounds-list_wet-end-4
slice_bounds-list_wet-end-4 c = sym (cells-long (goal.at.slice_bounds-list_wet-end-4 c).After-note_lakes-count)

pub slice_bounds-spare-end : goal.slice_bounds-spare-end
slice_bounds-spare-end c = omega (
  arith,
  few (goal.at.slice_bounds-spare-end c).After-note_lakes-count,
  cells_few
      (goal.at.slice_bounds-spare-end c).After-note_lakes-count,
)

pub slice_bounds-list_wet-end-5 : goal.slice_bounds-list_wet-end-5
slice_bounds-list_wet-end-5 c = sym (spare-long (goal.at.slice_bounds-list_wet-end-5 c).After-note_lakes-count)
