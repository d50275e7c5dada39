-- `lake_list::list_outermost` meets its contract: the walk of `list_groups`, with the level of each lake's first cell. It ends at the first
-- lake that is too deep, or with all of them listed.
-- Assumes nothing.
use mathlib.Core.List.{◌++◌}
use mathlib.Core.Path.{ap, refl, sym, ◌∙◌, ◌≡◌}
use Prim.Native.Nat.{ℕ, ◌+◌, ◌-◌, ◌<◌}
use native.Mathlib.Omega.{arith}
use lib.ListN.{length}
use borrow.Rule.Slice.PartMut.{post_of, put_mid}
use Rattle.lake_list.proofs.Outermost.{first-lake, first-on_tile, first-told, found_all, found_deep, next_small}
use Rattle.lake_list.proofs.Turns.{Bounds, Kept, kept_on, turn_again, turn_bounds, turn_ends, turn_over, turn_room}
use Rattle.lake_list.proofs.Walking.{Turn, turn, walk_starts, Walked}
use Rattle.lake_list.specs.Listing.{NotedLakes, Room}
use Rattle.lake_rules.specs.Lakes.{level_of}
use Rattle.lists.specs.Lists.{at}
use Rattle.std.specs.Prelude.{Err, None}
use Rattle.std.specs.Option.{ok_or}
use Rattle.std.proofs.lemmas.Result.{err_from_is_err_and}
use Rattle.std.specs.Result.{result_ok}
use Rattle.lake_list.specs.Rows.{too_deep_at}
use Rattle.lake_list.proofs.list_outermost.Goals as goal
use Rattle.lake_list.proofs.list_outermost.Goals.{After-list_lake-listed, In-loop-x}

-- what a turn of the loop finds
module _ (c : In-loop-x) where
  abbrev Lakes : Type 0
  Lakes =
      NotedLakes c.args.heights.now c.args.flags.now c.args.parents.now c.args.joins.now (level_of c.args.levels.now)
      c.args.cells.now c.args.ends.now c.args.count

  abbrev walked : (K : Lakes) → Walked K 64 0 c.args.rows.now c.loop-x.cells c.loop-x.ends c.loop-x.rows c.loop-x.x c.loop-x.next
  walked K = c.loop-x.invariant.2 K

  this : (K : Lakes) → Turn K 64 0 c.args.rows.now (walked K)
  this K = turn K 64 0 c.args.rows.now (walked K) c.loop-x-test.true

  abbrev lakes : Lakes
  lakes = c.requires.noted_lakes

  abbrev room : Room c.args.heights.now c.args.cells.now c.args.spare.now c.args.index.now c.args.rows.now 0
  room = c.requires.room.0

  abbrev held : Kept c.args.cells.now c.loop-x.cells c.args.spare.now c.loop-x.spare c.args.ends.now c.loop-x.ends
      c.args.index.now c.loop-x.index c.args.rows.now c.loop-x.rows
  held = c.loop-x.invariant.1

  -- where the turn's lake begins, its length, and where the entries for what is inside it begin
  abbrev from_cell : ℕ
  from_cell = at c.loop-x.ends c.loop-x.x

  abbrev cells_of : ℕ
  cells_of = at c.loop-x.ends (c.loop-x.x + 1) - from_cell

  abbrev from_end : ℕ
  from_end = c.args.count + 1

  bounds : Bounds c.loop-x.cells c.loop-x.spare c.loop-x.ends c.loop-x.x c.args.count
  bounds = turn_bounds lakes 64 0 c.args.rows.now (walked lakes) (this lakes) held room c.loop-x-test.true c.requires.room.1

  on_tile_fact : at c.loop-x.cells from_cell < length c.args.levels.now
  on_tile_fact = omega (arith, first-on_tile c.args.levels.now lakes c.args.rows.now (walked lakes) (this lakes), c.requires.room.2)

-- what it leaves
module _ (c : After-list_lake-listed) where
  abbrev tn : In-loop-x
  tn = (goal.at.After-list_lake-listed c).In-loop-x

  still : Kept c.args.cells.now (put_mid (from_cell tn) (cells_of tn) c.loop-x.cells c.list_lake-listed.new.cells)
      c.args.spare.now (put_mid (from_cell tn) (cells_of tn) c.loop-x.spare c.list_lake-listed.new.spare)
      c.args.ends.now (put_mid (from_end tn) (length c.loop-x.ends - from_end tn) c.loop-x.ends c.list_lake-listed.new.ends)
      c.args.index.now c.list_lake-listed.new.index c.args.rows.now c.list_lake-listed.new.rows
  still =
      let l = c.list_lake-listed in
      kept_on (from_cell tn) (cells_of tn) (from_end tn) l.new.cells l.new.spare l.new.ends l.new.index l.new.rows (held tn)
      l.auto.cells l.auto.spare l.auto.ends l.auto.index l.auto.rows

pub loop-x-init : goal.loop-x-init
loop-x-init c = let a = c.args in (
  omega arith,
  record { cells_kept = refl; spare_kept = refl; ends_kept = refl; index_kept = refl; rows_kept = refl },
  λ K. walk_starts K 64 0 a.rows.now,
)

pub bounds-ends-x : goal.bounds-ends-x
bounds-ends-x c = let b = bounds (goal.at.bounds-ends-x c).In-loop-x in omega arith

pub bounds-ends-x-in-loop-x : goal.bounds-ends-x-in-loop-x
bounds-ends-x-in-loop-x c = let b = bounds (goal.at.bounds-ends-x-in-loop-x c).In-loop-x in omega arith

pub bounds-cells-a : goal.bounds-cells-a
bounds-cells-a c = let b = bounds (goal.at.bounds-cells-a c).In-loop-x in omega arith

pub slice_bounds-list_lake-count : goal.slice_bounds-list_lake-count
slice_bounds-list_lake-count c = let b = bounds (goal.at.slice_bounds-list_lake-count c).In-loop-x in omega arith

pub slice_bounds-list_lake-start : goal.slice_bounds-list_lake-start
slice_bounds-list_lake-start c = let b = bounds (goal.at.slice_bounds-list_lake-start c).In-loop-x in omega arith

pub slice_bounds-list_lake-end : goal.slice_bounds-list_lake-end
slice_bounds-list_lake-end c = let b = bounds (goal.at.slice_bounds-list_lake-end c).In-loop-x in omega arith

pub slice_bounds-list_lake-count-in-loop-x : goal.slice_bounds-list_lake-count-in-loop-x
slice_bounds-list_lake-count-in-loop-x c = let b = bounds (goal.at.slice_bounds-list_lake-count-in-loop-x c).In-loop-x in omega arith

pub slice_bounds-list_lake-start-in-loop-x : goal.slice_bounds-list_lake-start-in-loop-x
slice_bounds-list_lake-start-in-loop-x c = let b = bounds (goal.at.slice_bounds-list_lake-start-in-loop-x c).In-loop-x in omega arith

pub slice_bounds-list_lake-end-in-loop-x : goal.slice_bounds-list_lake-end-in-loop-x
slice_bounds-list_lake-end-in-loop-x c = let b = bounds (goal.at.slice_bounds-list_lake-end-in-loop-x c).In-loop-x in omega arith

pub slice_bounds-list_lake-count-in-loop-x-2 : goal.slice_bounds-list_lake-count-in-loop-x-2
slice_bounds-list_lake-count-in-loop-x-2 c = let b = bounds (goal.at.slice_bounds-list_lake-count-in-loop-x-2 c).In-loop-x in omega arith

pub slice_bounds-list_lake-start-in-loop-x-2 : goal.slice_bounds-list_lake-start-in-loop-x-2
slice_bounds-list_lake-start-in-loop-x-2 c = let b = bounds (goal.at.slice_bounds-list_lake-start-in-loop-x-2 c).In-loop-x in omega arith

pub bounds-levels-first : goal.bounds-levels-first
bounds-levels-first c = omega (arith, on_tile_fact (goal.at.bounds-levels-first c).In-loop-x, c.requires.room.2, c.requires.noted_lakes.notes.few)

pub list_lake-listed-requires : goal.list_lake-listed-requires
list_lake-listed-requires c =
    let q = (goal.at.list_lake-listed-requires c).In-loop-x in
    let a = c.args in
    let K = lakes q in record {
      noted_lake = first-lake a.levels.now K a.rows.now (walked q K) (this q K);
      room = (
        turn_room K 64 0 a.rows.now (walked q K) (this q K) (held q) (room q),
        turn_ends K 64 0 a.rows.now (walked q K) (this q K) (held q) (room q) refl,
      );
    }

-- the answer to a lake that is too deep
pub returns-in_err-next : goal.returns-in_err-next
returns-in_err-next c =
    let q = (goal.at.returns-in_err-next c).In-loop-x in
    let a = c.args in
    let over : c.list_lake-listed.result ≡ None = c.ok_or.ensures.ok_part ∙ ap result_ok c.in_err-next.was in
    let first = too_deep_at (at c.loop-x.cells (from_cell q)) in
    let told : c.from_residual.result ≡ Err first =
    (let d = err_from_is_err_and c.from_residual.result c.from_residual.ensures.1 in d.1 ∙ ap Err d.2) ∙ sym c.in_err-next.was ∙ c.ok_or.ensures.value
    ∙ ap (λ o. ok_or o first) over in
    λ K. found_deep a.levels.now K a.rows.now (walked q K) (this q K) told
    (turn_over K 64 0 a.rows.now (walked q K) (this q K) (held q) (room q)
    (first-told a.levels.now K a.rows.now (walked q K) (this q K) c.list_lake-listed.ensures) over)

pub loop-x-preserved : goal.loop-x-preserved
loop-x-preserved c =
    let q = (goal.at.loop-x-preserved c).In-loop-x in
    let a = c.args in
    let e = c.loop-x.ends in (
      omega (arith, c.loop-x-test.true),
      still (goal.at.loop-x-preserved c).After-list_lake-listed,
      λ K. turn_again K 64 0 a.rows.now (walked q K) (this q K) (held q) (room q)
          (first-told a.levels.now K a.rows.now (walked q K) (this q K) c.list_lake-listed.ensures)
          (c.ok_or.ensures.ok_part ∙ ap result_ok c.in_ok-next.was) c.list_lake-listed.new.cells
          (c.list_lake-listed.new.ends ++ post_of (from_end q) (length e - from_end q) e) refl c.list_lake-listed.auto.cells,
    )

pub overflow_cast-result : goal.overflow_cast-result
overflow_cast-result c = let n = next_small c.args.levels.now c.requires.noted_lakes c.args.rows.now (c.loop-x.invariant.2 c.requires.noted_lakes)
    c.requires.room.0 in
    omega arith

pub returns : goal.returns
returns c = λ K. found_all c.args.levels.now K c.args.rows.now (c.loop-x.invariant.2 K) c.requires.room.0 c.loop-x-test.false
