-- `passes::choose_pairs` meets its contract: what listing gives is what sorting asks, what sorting gives is what picking asks, and what
-- picking gives are the chosen passes.
-- Assumes nothing.
use mathlib.Core.Path.{sym}
use native.Mathlib.Omega.{arith}
use Rattle.passes.proofs.Choosing.{chosen-pairs, chosen_room, listable, long_listed, long_sorted, pickable, sortable}
use Rattle.rules.specs.Land.{rule_by}
use Rattle.rules.specs.Tile.{tile_land}
use Rattle.passes.proofs.choose_pairs.Goals as goal

pub list_pairs-count-requires : goal.list_pairs-count-requires
list_pairs-count-requires c = listable c.requires.by_index.1

pub slice_bounds-sort_pairs-end-2 : goal.slice_bounds-sort_pairs-end-2
slice_bounds-sort_pairs-end-2 c =
    let l = c.list_pairs-count in
    sym (long_listed c.requires.by_index.1 l.ensures l.auto.list)

pub sort_pairs-requires : goal.sort_pairs-requires
sort_pairs-requires c =
    let l = c.list_pairs-count in
    let C = c.requires.by_index.1 in
    let kl = l.auto.list in
    (sortable C l.ensures kl, omega (arith, long_listed C l.ensures kl, l.ensures.within, C.room, c.requires.list_in_bounds))

pub slice_bounds-pick-end-2 : goal.slice_bounds-pick-end-2
slice_bounds-pick-end-2 c =
    let s = c.sort_pairs in
    let l = c.list_pairs-count in
    sym (long_sorted c.requires.by_index.1 l.ensures l.auto.list s.ensures s.auto.list)

pub pick-requires : goal.pick-requires
pick-requires c =
    let s = c.sort_pairs in
    let l = c.list_pairs-count in
    let C = c.requires.by_index.1 in
    let P = pickable C l.ensures l.auto.list s.ensures s.auto.list in
    let land = tile_land (rule_by c.args.neighbours) c.args.w c.args.heights.now c.requires.by_index.0 in
    (C.tile.grid.rows.wide, C.tile.grid.narrow, (land, P))

pub returns : goal.returns
returns c =
    let p = c.pick in
    let s = c.sort_pairs in
    let l = c.list_pairs-count in
    let land = tile_land (rule_by c.args.neighbours) c.args.w c.args.heights.now in
    let kl = l.auto.list in
    let ks = s.auto.list in
    let kp = p.auto.list in
    let C₀ = c.requires.by_index.1 in
    let P₀ = pickable C₀ l.ensures kl s.ensures ks in
    record {
      within = chosen_room C₀ l.ensures kl s.ensures ks (p.ensures (land c.requires.by_index.0) P₀) kp;
      pairs = λ marks C.
          let P = pickable C l.ensures kl s.ensures ks in
          chosen-pairs C l.ensures kl s.ensures ks (p.ensures (land marks) P) kp;
    }
