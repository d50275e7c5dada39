-- `lake_stages::tile_lakes` meets its contract: the levels are those of the tile's network, which listing takes as they are.
-- Assumes nothing.
use mathlib.Core.List.{List}
use mathlib.Core.Path.{ap, subst, sym, ◌∙◌, ◌≡◌}
use Prim.Native.Nat.{ℕ}
use lib.ListN.{length, replicate, take}
use Rattle.lake_list.specs.Rows.{FoundIn}
use Rattle.lake_notes.specs.Noting.{Levelled}
use Rattle.lake_rules.specs.LocalLevels.{Local}
use Rattle.lake_stages.proofs.TileLevels.{levels_many, tile_levelled, tile_local}
use Rattle.lake_stages.specs.Levels.{levels_on}
use Rattle.lists.proofs.Overwrite.{overwrite-take}
use Rattle.rules.specs.Land.{Land, rule4}
use Rattle.rules.specs.Tile.{tile_land}
use Rattle.lake_stages.proofs.tile_lakes.Goals as goal
use Rattle.lake_stages.proofs.tile_lakes.Goals.{After-find_levels}

abbrev land : After-find_levels → Land
land c = let a = c.args in tile_land rule4 a.w a.heights.now a.marks.now

-- the levels, as they were left
abbrev levels : After-find_levels → List ℕ
levels c = c.find_levels.new.levels

levels-here : (c : After-find_levels) → take (length c.args.heights.now) (levels c) ≡ levels_on (land c)
levels-here c =
    let a = c.args in
    overwrite-take (levels_on (land c)) (replicate 4096 0) (length a.heights.now)
    (levels_many a.w a.heights.now a.marks.now c.requires.lawful_tile) c.find_levels.ensures

pub slice_bounds-list_lakes-end : goal.slice_bounds-list_lakes-end
slice_bounds-list_lakes-end c =
    let a = c.args in
    sym (ap length (levels-here (goal.at.slice_bounds-list_lakes-end c).After-find_levels) ∙ levels_many a.w a.heights.now a.marks.now c.requires.lawful_tile)

pub list_lakes-requires : goal.list_lakes-requires
list_lakes-requires c =
    let at-place = (goal.at.list_lakes-requires c).After-find_levels in
    let a = c.args in
    let e = sym (levels-here at-place) in record {
      levelled = subst (Levelled a.w a.heights.now) e (tile_levelled a.w a.heights.now a.marks.now c.requires.lawful_tile);
      heights_in_bounds = (
        c.requires.heights_in_bounds,
        (a.marks.now, subst (Local (land at-place)) e (tile_local a.w a.heights.now a.marks.now c.requires.lawful_tile)),
      );
    }

pub returns : goal.returns
returns c =
    let at-place = (goal.at.returns c).After-find_levels in
    let a = c.args in
    let e = levels-here at-place in
    let K = subst (Local (land at-place)) (sym e) (tile_local a.w a.heights.now a.marks.now c.requires.lawful_tile) in
    subst (λ (l : List ℕ). FoundIn (land at-place) l c.list_lakes.result c.list_lakes.new.rows) e
    (c.list_lakes.ensures a.marks.now K)
