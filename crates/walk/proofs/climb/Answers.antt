-- `walk::climb` meets its contract.
-- Between turns the invariant of Midst holds for all marks and receivers that the contract speaks of. Of those that it requires, the top
-- cell, its receiver and its room on the stack are known (Tops), and so every index is in its list; with four neighbours its mask has no
-- corners (Asked). Turns keeps the invariant.
-- Assumes nothing.
use Rattle.std.proofs.Common.{ℕ, ◌+◌, ◌<◌, ◌≤◌, length, refl, arith}
use Rattle.grid.specs.Window.{around}
use Rattle.lists.specs.Lists.{at}
use Rattle.rules.specs.Land.{rule_by}
use Rattle.rules.specs.Tile.{tile_land}
use Rattle.walk.proofs.Asked.{mask-asked}
use Rattle.walk.proofs.Midst.{begin, finish, Midst, still_room}
use Rattle.walk.proofs.Tops.{bits_fit, cell_on, parts, receiver_there, room, top}
use Rattle.walk.proofs.Turns.{turn}
use Rattle.walk.specs.Climb.{cell_in, MaskAsked, mask_in, ones, receiver_in}
use Rattle.walk.specs.Walk.{lent, Lent, LentHolds}
use Rattle.walk.proofs.climb.Goals as goal
use Rattle.walk.proofs.climb.Goals.{At-loop-top}

abbrev given : At-loop-top → Lent
given lp =
    let a = lp.args in
    lent a.stack.now a.order.now a.receivers.now a.levels.now a.wets.now

abbrev held : At-loop-top → Lent
held lp = lent lp.loop-top.stack lp.loop-top.order lp.loop-top.receivers lp.loop-top.levels lp.loop-top.wets

-- the invariant at the marks and the receivers that are required
midst : (lp : At-loop-top)
    → let a = lp.args in
    Midst a.w (tile_land (rule_by a.neighbours) a.w a.heights.now lp.requires.by_index.0) lp.requires.by_index.1 (given lp) (held lp)
    lp.loop-top.written.0 lp.loop-top.top.0
midst lp = let p = lp.requires.by_index in lp.loop-top.invariant p.0 p.1 p.2 p.3

abbrev cells : At-loop-top → ℕ
cells lp = length lp.args.heights.now

-- the top entry
abbrev entry : At-loop-top → ℕ
entry lp = at lp.loop-top.stack lp.loop-top.top.0

-- what is known at each turn
record Turn (lp : At-loop-top) : Type 0 where
  pub few : cells lp ≤ 4096
  pub wide : 0 < lp.args.w
  pub narrow : lp.args.w ≤ 64
  pub margin : cells lp + 130 ≤ length lp.args.links.now
  pub fits : LentHolds (cells lp) (held lp)
  pub here : lp.loop-top.top.0 < cells lp
  pub more : lp.loop-top.written.0 < cells lp
  pub cell_on : cell_in (entry lp) < cells lp
  pub receiver_there : receiver_in (entry lp) < cells lp
  pub bits : ones around (mask_in (entry lp)) ≤ lp.loop-top.top.0
  pub asked : MaskAsked lp.args.neighbours (mask_in (entry lp))

turn-here : (lp : At-loop-top) → lp.loop-top.top.0 < cells lp → Turn lp
turn-here lp t =
    let M = lp.requires.by_index.2 in
    let I = midst lp in
    let fits = still_room M.inside.drains I lp.requires.lent_holds in
    let T = top M I t fits.fits_stack in
    record {
      few = M.inside.tile.grid.few;
      wide = M.inside.tile.grid.rows.wide;
      narrow = M.inside.tile.grid.narrow;
      margin = M.wide;
      fits = fits;
      here = t;
      more = (room M I T).0;
      cell_on = cell_on M I T;
      receiver_there = receiver_there M I T;
      bits = bits_fit M I T;
      asked = rw (parts M I T).mask_is (mask-asked lp.args.neighbours M T.x T.on);
    }

pub loop-top-init : goal.loop-top-init
loop-top-init c = λ marks r M R. begin M.inside.drains R

pub offset_bounds-stack-top : goal.offset_bounds-stack-top
offset_bounds-stack-top c = omega (arith, turn-here (goal.at.offset_bounds-stack-top c).At-loop-top c.loop-top-test.true)

pub bounds-stack-top : goal.bounds-stack-top
bounds-stack-top c = omega (arith, turn-here (goal.at.bounds-stack-top c).At-loop-top c.loop-top-test.true)

pub offset_bounds-order-written : goal.offset_bounds-order-written
offset_bounds-order-written c =
    omega (arith, turn-here (goal.at.offset_bounds-order-written c).At-loop-top c.loop-top-test.true)

pub bounds-order-written : goal.bounds-order-written
bounds-order-written c =
    omega (arith, turn-here (goal.at.bounds-order-written c).At-loop-top c.loop-top-test.true)

pub visit-top-requires : goal.visit-top-requires
visit-top-requires c =
    let T = turn-here (goal.at.visit-top-requires c).At-loop-top c.loop-top-test.true in
    let cell : c.cell-c.result.0 < cells (goal.at.visit-top-requires c).At-loop-top = rw c.cell-c.ensures.0 T.cell_on in
    let few = T.few in let margin = T.margin in let fits = T.fits.fits_stack in let here = T.here in record {
      w_nonzero = (T.wide, T.narrow, omega arith, omega arith, rw c.mask.ensures T.asked);
      mask_bound = (rw c.mask.ensures T.bits, omega arith, omega arith);
    }

pub settle-requires : goal.settle-requires
settle-requires c =
    let at-place = (goal.at.settle-requires c).At-loop-top in
    let T = turn-here at-place c.loop-top-test.true in
    let cell : c.cell-c.result.0 < cells at-place = rw c.cell-c.ensures.0 T.cell_on in
    let receiver : c.receiver.result.0 < cells at-place = rw c.receiver.ensures T.receiver_there in
    let r = T.fits.fits_receivers in let l = T.fits.fits_levels in let v = T.fits.fits_wets in
    (cell, omega arith, omega arith, omega arith, omega arith)

pub overflow_add-written : goal.overflow_add-written
overflow_add-written c =
    omega (arith, turn-here (goal.at.overflow_add-written c).At-loop-top c.loop-top-test.true)

pub loop-top-smaller : goal.loop-top-smaller
loop-top-smaller c =
    omega (arith, (turn-here (goal.at.loop-top-smaller c).At-loop-top c.loop-top-test.true).more)

pub loop-top-preserved : goal.loop-top-preserved
loop-top-preserved c =
    let z = c.settle in let q = c.receiver in
    let v = c.visit-top in let m = c.mask in let x = c.cell-c in
    let fits = (turn-here (goal.at.loop-top-preserved c).At-loop-top c.loop-top-test.true).fits.fits_stack in
    λ marks r M R.
    let T = top M (c.loop-top.invariant marks r M R) c.loop-top-test.true fits in
    turn M T c.requires.lent_holds x.result.0 q.result.0 m.result x.ensures.0 q.ensures m.ensures v.auto.stack
    v.ensures.0 v.ensures.1 refl z.ensures.0 z.ensures.1 z.ensures.2

pub shape_of-stack : goal.shape_of-stack
shape_of-stack c = (midst (goal.at.shape_of-stack c).At-loop-top).size_stack

pub shape_of-order : goal.shape_of-order
shape_of-order c = (midst (goal.at.shape_of-order c).At-loop-top).size_order

pub shape_of-receivers : goal.shape_of-receivers
shape_of-receivers c = (midst (goal.at.shape_of-receivers c).At-loop-top).noted_receivers.size

pub shape_of-levels : goal.shape_of-levels
shape_of-levels c = (midst (goal.at.shape_of-levels c).At-loop-top).noted_levels.size

pub shape_of-wets : goal.shape_of-wets
shape_of-wets c = (midst (goal.at.shape_of-wets c).At-loop-top).noted_wets.size

pub returns : goal.returns
returns c =
    λ marks r M R. finish M.inside.drains (c.loop-top.invariant marks r M R) c.loop-top-test.false c.requires.lent_holds
