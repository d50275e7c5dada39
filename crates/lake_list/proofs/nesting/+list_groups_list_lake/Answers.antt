-- `lake_list::nesting::list_groups` and `list_lake` meet their contracts, each by the other's. Between turns of the loop the lakes before lake x
-- are listed, and the others stand as they did (`Walked`): a turn's lake is the part that is lent, and what comes back of it is not read
-- again. A lake is listed after what is listed of the groups below its split (`lake_listed`).
-- The number of cells falls: a group lacks the cells at the split.
-- Assumes nothing.
use mathlib.Core.List.{List, ◌++◌}
use mathlib.Core.Path.{refl}
use Prim.Native.Nat.{ℕ, ◌*◌, ◌+◌, ◌-◌, ◌<◌, ◌≤◌}
use native.Mathlib.Omega.{arith}
use lib.ListN.{length}
use borrow.Rule.Slice.PartMut.{post_of, put_mid}
use Rattle.lake_list.proofs.Splitting.{below, can_gather, inner, inner_count, inner_first, lake_listed, lake-none, lake_over, next_few, on_tile_fact}
use Rattle.lake_list.proofs.Turns.{all_listed, all_over, Bounds, Kept, kept_on, turn_again, turn_bounds, turn_ends, turn_fewer, turn_lake}
use Rattle.lake_list.proofs.Turns.{turn_over, turn_room}
use Rattle.lake_list.proofs.Walking.{Turn, turn, walk_starts, Walked}
use Rattle.lake_list.specs.Listing.{NotedLakes, Room}
use Rattle.lists.specs.Lists.{at}
use Rattle.lake_list.proofs.nesting.+list_groups_list_lake.Goals as goal
use Rattle.lake_list.proofs.nesting.+list_groups_list_lake.Goals.{list_groups-After-list_lake, list_groups-In-loop-x}
use Rattle.lake_list.proofs.nesting.+list_groups_list_lake.Goals.{list_lake-After-gather-count, list_lake-In_ok-next}

-- what a turn of the loop finds
module _ (t : ℕ) (c : list_groups-In-loop-x t) where
  abbrev Lakes : Type 0
  Lakes =
      NotedLakes c.args.heights.now c.args.flags.now c.args.parents.now c.args.joins.now (λ (g : List ℕ). c.args.level)
      c.args.cells.now c.args.ends.now c.args.count

  abbrev walked : (K : Lakes) → Walked K c.args.left c.args.from c.args.rows.now c.loop-x.cells c.loop-x.ends
      c.loop-x.rows c.loop-x.x c.loop-x.next
  walked K = c.loop-x.invariant.2 K

  this : (K : Lakes) → Turn K c.args.left c.args.from c.args.rows.now (walked K)
  this K = turn K c.args.left c.args.from c.args.rows.now (walked K) c.loop-x-test.true

  abbrev lakes : Lakes
  lakes = c.requires.noted_lakes

  abbrev room : Room c.args.heights.now c.args.cells.now c.args.spare.now c.args.index.now c.args.rows.now c.args.from
  room = c.requires.room.0

  abbrev held : Kept c.args.cells.now c.loop-x.cells c.args.spare.now c.loop-x.spare c.args.ends.now c.loop-x.ends
      c.args.index.now c.loop-x.index c.args.rows.now c.loop-x.rows
  held = c.loop-x.invariant.1

  -- where the turn's lake begins, its length, and where the entries for what is inside it begin
  abbrev from_cell : ℕ
  from_cell = at c.loop-x.ends c.loop-x.x

  abbrev cells_of : ℕ
  cells_of = at c.loop-x.ends (c.loop-x.x + 1) - from_cell

  abbrev from_end : ℕ
  from_end = c.args.count + 1

  bounds : Bounds c.loop-x.cells c.loop-x.spare c.loop-x.ends c.loop-x.x c.args.count
  bounds =
      turn_bounds lakes c.args.left c.args.from c.args.rows.now (walked lakes) (this lakes) held room c.loop-x-test.true
      c.requires.room.2

-- what it leaves
module _ (t : ℕ) (c : list_groups-After-list_lake t) where
  abbrev tn : list_groups-In-loop-x t
  tn = (goal.at.list_groups-After-list_lake t c).In-loop-x

  still : Kept c.args.cells.now (put_mid (from_cell t tn) (cells_of t tn) c.loop-x.cells c.list_lake.new.cells)
      c.args.spare.now (put_mid (from_cell t tn) (cells_of t tn) c.loop-x.spare c.list_lake.new.spare)
      c.args.ends.now (put_mid (from_end t tn) (length c.loop-x.ends - from_end t tn) c.loop-x.ends c.list_lake.new.ends)
      c.args.index.now c.list_lake.new.index c.args.rows.now c.list_lake.new.rows
  still =
      let l = c.list_lake in
      kept_on (from_cell t tn) (cells_of t tn) (from_end t tn) l.new.cells l.new.spare l.new.ends l.new.index l.new.rows (held t tn)
      l.auto.cells l.auto.spare l.auto.ends l.auto.index l.auto.rows

-- there is room for the lakes inside
enough : (t : ℕ) (c : list_lake-After-gather-count t) → 2 * length c.args.cells.now ≤ length c.gather-count.new.ends
enough t c = omega (arith, c.requires.room.1, c.gather-count.auto.ends)

-- fewer lakes are listed inside than the lake has cells
listed_few : (t : ℕ) (c : list_lake-In_ok-next t) → c.in_ok-next.next < c.args.from + length c.args.cells.now
listed_few t c =
    let K = c.requires.noted_lake in
    let n = c.if-left-eq0.false in
    next_few K c.split_height-h.ensures c.gather-count.ensures c.gather-count.auto.out c.requires.room.0.spare_fits
    (enough t (goal.at.list_lake-In_ok-next t c).After-gather-count) (omega arith) c.list_groups.ensures c.in_ok-next.was

pub list_groups-loop-x-init : goal.list_groups-loop-x-init
list_groups-loop-x-init t c = (
  omega arith,
  record { cells_kept = refl; spare_kept = refl; ends_kept = refl; index_kept = refl; rows_kept = refl },
  λ K. walk_starts K c.args.left c.args.from c.args.rows.now,
)

pub list_groups-bounds-ends-x : goal.list_groups-bounds-ends-x
list_groups-bounds-ends-x t c =
    let b = bounds t (goal.at.list_groups-bounds-ends-x t c).In-loop-x in omega arith

pub list_groups-bounds-ends-x-in-loop-x : goal.list_groups-bounds-ends-x-in-loop-x
list_groups-bounds-ends-x-in-loop-x t c =
    let b = bounds t (goal.at.list_groups-bounds-ends-x-in-loop-x t c).In-loop-x in omega arith

pub list_groups-slice_bounds-list_lake-count : goal.list_groups-slice_bounds-list_lake-count
list_groups-slice_bounds-list_lake-count t c =
    let b = bounds t (goal.at.list_groups-slice_bounds-list_lake-count t c).In-loop-x in omega arith

pub list_groups-slice_bounds-list_lake-start : goal.list_groups-slice_bounds-list_lake-start
list_groups-slice_bounds-list_lake-start t c =
    let b = bounds t (goal.at.list_groups-slice_bounds-list_lake-start t c).In-loop-x in omega arith

pub list_groups-slice_bounds-list_lake-end : goal.list_groups-slice_bounds-list_lake-end
list_groups-slice_bounds-list_lake-end t c =
    let b = bounds t (goal.at.list_groups-slice_bounds-list_lake-end t c).In-loop-x in omega arith

pub list_groups-slice_bounds-list_lake-count-in-loop-x : goal.list_groups-slice_bounds-list_lake-count-in-loop-x
list_groups-slice_bounds-list_lake-count-in-loop-x t c =
    let b = bounds t (goal.at.list_groups-slice_bounds-list_lake-count-in-loop-x t c).In-loop-x in omega arith

pub list_groups-slice_bounds-list_lake-start-in-loop-x : goal.list_groups-slice_bounds-list_lake-start-in-loop-x
list_groups-slice_bounds-list_lake-start-in-loop-x t c =
    let b = bounds t (goal.at.list_groups-slice_bounds-list_lake-start-in-loop-x t c).In-loop-x in omega arith

pub list_groups-slice_bounds-list_lake-end-in-loop-x : goal.list_groups-slice_bounds-list_lake-end-in-loop-x
list_groups-slice_bounds-list_lake-end-in-loop-x t c =
    let b = bounds t (goal.at.list_groups-slice_bounds-list_lake-end-in-loop-x t c).In-loop-x in omega arith

pub list_groups-slice_bounds-list_lake-count-in-loop-x-2 : goal.list_groups-slice_bounds-list_lake-count-in-loop-x-2
list_groups-slice_bounds-list_lake-count-in-loop-x-2 t c =
    let b = bounds t (goal.at.list_groups-slice_bounds-list_lake-count-in-loop-x-2 t c).In-loop-x in omega arith

pub list_groups-slice_bounds-list_lake-start-in-loop-x-2 : goal.list_groups-slice_bounds-list_lake-start-in-loop-x-2
list_groups-slice_bounds-list_lake-start-in-loop-x-2 t c =
    let b = bounds t (goal.at.list_groups-slice_bounds-list_lake-start-in-loop-x-2 t c).In-loop-x in omega arith

pub list_groups-list_lake-requires : goal.list_groups-list_lake-requires
list_groups-list_lake-requires t c =
    let q = (goal.at.list_groups-list_lake-requires t c).In-loop-x in
    let a = c.args in
    let K = lakes t q in (
      omega (
        arith,
        c.decreases,
        turn_fewer K a.left a.from a.rows.now (walked t q K) (this t q K) (held t q) (room t q) c.requires.room.1,
      ),
      (
        turn_lake K a.left a.from a.rows.now (walked t q K) (this t q K),
        (
          turn_room K a.left a.from a.rows.now (walked t q K) (this t q K) (held t q) (room t q),
          turn_ends K a.left a.from a.rows.now (walked t q K) (this t q K) (held t q) (room t q) refl,
        ),
      ),
    )

pub list_groups-returns-in_err-next : goal.list_groups-returns-in_err-next
list_groups-returns-in_err-next t c =
    let q = (goal.at.list_groups-returns-in_err-next t c).In-loop-x in
    let a = c.args in
    λ K. all_over K a.left a.from a.rows.now (walked t q K) (this t q K) c.from_residual.ensures
    (turn_over K a.left a.from a.rows.now (walked t q K) (this t q K) (held t q) (room t q) c.list_lake.ensures c.in_err-next.was)

pub list_groups-loop-x-preserved : goal.list_groups-loop-x-preserved
list_groups-loop-x-preserved t c =
    let q = (goal.at.list_groups-loop-x-preserved t c).In-loop-x in
    let l = c.list_lake in
    let a = c.args in
    let e = c.loop-x.ends in (
      omega (arith, c.loop-x-test.true),
      still t (goal.at.list_groups-loop-x-preserved t c).After-list_lake,
      λ K. turn_again K a.left a.from a.rows.now (walked t q K) (this t q K) (held t q) (room t q) l.ensures
          c.in_ok-next.was l.new.cells (l.new.ends ++ post_of (from_end t q) (length e - from_end t q) e) refl l.auto.cells,
    )

pub list_groups-returns : goal.list_groups-returns
list_groups-returns t c =
    λ K. all_listed K c.args.left c.args.from c.args.rows.now (c.loop-x.invariant.2 K) c.loop-x-test.false

pub list_lake-returns-then-left-eq0 : goal.list_lake-returns-then-left-eq0
list_lake-returns-then-left-eq0 t c = λ K. lake-none K c.if-left-eq0.true

pub list_lake-row_of-row-requires : goal.list_lake-row_of-row-requires
list_lake-row_of-row-requires t c =
    let K = c.requires.noted_lake in
    (record { few = omega (arith, c.requires.room.0.few); on_tile_fact = on_tile_fact K; below = below K }, K.is.some)

pub list_lake-split_height-h-requires : goal.list_lake-split_height-h-requires
list_lake-split_height-h-requires t c =
    let K = c.requires.noted_lake in
    record { few = omega (arith, c.requires.room.0.few); flags_fit = K.notes.flags_fit; on_tile_fact = on_tile_fact K }

pub list_lake-gather-count-requires-clause-gatherable : goal.list_lake-gather-count-requires-clause-gatherable
list_lake-gather-count-requires-clause-gatherable t c = can_gather c.requires.noted_lake c.split_height-h.ensures

pub list_lake-list_groups-requires : goal.list_lake-list_groups-requires
list_lake-list_groups-requires t c =
    let g = (goal.at.list_lake-list_groups-requires t c).After-gather-count in
    let K = c.requires.noted_lake in
    let R = c.requires.room.0 in
    let h = c.split_height-h.ensures in
    let G = c.gather-count.ensures in
    let go = c.gather-count.auto.out in
    let gi = c.gather-count.auto.index in (
      omega (arith, c.decreases, go, R.spare_fits),
      (
        inner K h G go R.spare_fits (enough t g),
        (
          record {
            spare_fits = omega (arith, go, R.spare_fits);
            index_fits = omega (arith, gi, R.index_fits);
            few = omega (arith, go, R.spare_fits, R.few);
            rows_fit = omega (arith, go, R.spare_fits, R.rows_fit);
          },
          inner_first K h G go R.spare_fits (enough t g),
          inner_count K h G go R.spare_fits (enough t g),
        ),
      ),
    )

pub list_lake-returns-in_err-next : goal.list_lake-returns-in_err-next
list_lake-returns-in_err-next t c =
    let g = (goal.at.list_lake-returns-in_err-next t c).After-gather-count in
    let R = c.requires.room.0 in
    let n = c.if-left-eq0.false in
    λ K. lake_over K c.split_height-h.ensures c.gather-count.ensures c.gather-count.auto.out R.spare_fits (enough t g) (omega arith)
    c.list_groups.ensures c.in_err-next.was c.from_residual.ensures

pub list_lake-bounds-rows-next : goal.list_lake-bounds-rows-next
list_lake-bounds-rows-next t c = omega (arith, listed_few t c, c.requires.room.0.rows_fit, c.list_groups.auto.rows)

pub list_lake-offset_bounds-rows-next : goal.list_lake-offset_bounds-rows-next
list_lake-offset_bounds-rows-next t c = omega (arith, listed_few t c, c.requires.room.0.few)

pub list_lake-overflow_add-result : goal.list_lake-overflow_add-result
list_lake-overflow_add-result t c = omega (arith, listed_few t c, c.requires.room.0.few)

pub list_lake-returns : goal.list_lake-returns
list_lake-returns t c =
    let g = (goal.at.list_lake-returns t c).After-gather-count in
    let R = c.requires.room.0 in
    let n = c.if-left-eq0.false in
    λ K. lake_listed K c.split_height-h.ensures c.gather-count.ensures c.gather-count.auto.out R.spare_fits (enough t g) (omega arith)
    c.list_groups.ensures c.in_ok-next.was c.row_of-row.ensures
