-- `drainage::give_all` meets its contract. Between turns the cells from the place on have given (Given).
-- Assumes nothing.
use mathlib.Core.Path.{refl, subst, ◌∙◌, ◌≡◌}
use Prim.Native.Nat.{ℕ, ◌+◌, ◌-◌, ◌<◌, ◌≤◌}
use native.Mathlib.Omega.{arith}
use lib.ListN.{length}
use Rattle.drainage.proofs.Backwards.{Given, given_all, given_next, given_none, turn_fits}
use Rattle.lists.specs.Lists.{at}
use Rattle.drainage.proofs.give_all.Goals as goal
use Rattle.drainage.proofs.give_all.Goals.{In-loop-place}

-- the cell whose turn it is, its receiver, and that their sum fits
abbrev here : In-loop-place → ℕ
here c = at c.args.order.now (c.loop-place.place - 1)

turn : (c : In-loop-place)
    → let there = at c.args.receivers.now (here c) in
    let d = c.loop-place.drainage in
    (here c < c.args.n) × (there < c.args.n) × ((there ≡ here c → ⊥) → at d there + at d (here c) ≤ 268431360)
turn c =
    let G = c.requires.by_index.2 in
    turn_fits c.requires.by_index.0 c.requires.by_index.1 c.args.n c.args.order.now c.args.receivers.now G c.args.drainage.now
    c.loop-place.drainage c.loop-place.place (c.loop-place.invariant.2 c.requires.by_index.0 c.requires.by_index.1 G) c.loop-place-test.true
    c.loop-place.invariant.0
    c.requires.n_in_bounds.1

-- all indices of a turn lie in their lists
within : (c : In-loop-place)
    → let a = c.args in
    (here c < a.n) × (a.n ≤ 4096) × (a.n ≤ length a.order.now) × (a.n ≤ length a.receivers.now)
within c = let G = c.requires.by_index.2 in ((turn c).0, G.few, G.fits_order, G.fits_receivers)

pub loop-place-init : goal.loop-place-init
loop-place-init c =
    (omega arith, refl, λ L r G. given_none L r c.args.n c.args.order.now c.args.receivers.now G c.args.drainage.now)

pub give-requires : goal.give-requires
give-requires c = let t = turn (goal.at.give-requires c).In-loop-place in rw c.index.ensures.0 record {
  c_in_bounds = (omega (arith, t.0), omega (arith, t.1));
  c_bound = t.2;
}

pub loop-place-preserved : goal.loop-place-preserved
loop-place-preserved c =
    let gave = c.give in (
      omega arith,
      gave.auto.drainage ∙ c.loop-place.invariant.1,
      λ L r G. rw (gave.ensures, c.index.ensures.0) (given_next L r c.args.n c.args.order.now c.args.receivers.now G c.args.drainage.now
          c.loop-place.drainage c.loop-place.place (c.loop-place.invariant.2 L r G)
          c.loop-place-test.true c.loop-place.invariant.0 c.requires.n_in_bounds.0),
    )

pub returns : goal.returns
returns c =
    let e : c.loop-place.place ≡ 0 = omega (arith, c.loop-place-test.false) in
    λ L r G. given_all L r c.args.n c.args.order.now c.args.receivers.now G c.args.drainage.now c.requires.n_in_bounds.0
    c.loop-place.drainage
    (subst (Given L r c.args.n c.args.order.now c.args.receivers.now G c.args.drainage.now c.loop-place.drainage) e
    (c.loop-place.invariant.2 L r G))

pub offset_bounds-order-place : goal.offset_bounds-order-place
offset_bounds-order-place c = omega (arith, within (goal.at.offset_bounds-order-place c).In-loop-place)

pub bounds-order-place : goal.bounds-order-place
bounds-order-place c = omega (arith, within (goal.at.bounds-order-place c).In-loop-place)

pub offset_bounds-receivers-index : goal.offset_bounds-receivers-index
offset_bounds-receivers-index c = omega (arith, c.index.ensures.0, within (goal.at.offset_bounds-receivers-index c).In-loop-place)

pub bounds-receivers-index : goal.bounds-receivers-index
bounds-receivers-index c = omega (arith, c.index.ensures.0, within (goal.at.bounds-receivers-index c).In-loop-place)

pub loop-place-smaller : goal.loop-place-smaller
loop-place-smaller c = omega (arith, c.loop-place-test.true)

pub shape_of-drainage : goal.shape_of-drainage
shape_of-drainage c = c.loop-place.invariant.1
