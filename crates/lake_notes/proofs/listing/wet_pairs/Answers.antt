-- `lake_notes::wet_pairs` meets its contract: after c cells their pairs stand at the start.
-- Assumes nothing.
use mathlib.Core.Bool.{Bool, cond, false, true}
use mathlib.Core.Path.{ap, refl, ◌∙◌, ◌≡◌}
use mir.Val.{bool_byte}
use Prim.Native.Nat.{ℕ, ◌≤◌}
use native.Mathlib.Omega.{arith}
use lib.ListN.{length-set}
use Rattle.lake_notes.proofs.PairTurns.{listing_all, listing_next, listing_none, some_left}
use Rattle.lake_notes.proofs.listing.wet_pairs.Goals as goal

-- a bool as a number
as_number : (b : Bool) → bool_byte b ≡ cond b 1 0
as_number true = refl
as_number false = refl

byte_small : (b : Bool) → bool_byte b ≤ 1
byte_small true = omega arith
byte_small false = omega arith

pub loop-c-init : goal.loop-c-init
loop-c-init c =
    let a = c.args in
    (refl, omega arith, listing_none a.w a.heights.now a.levels.now c.requires.0.grid.rows.wide a.list.now)

pub right_wet-right-requires : goal.right_wet-right-requires
right_wet-right-requires c =
    (c.requires.0, c.loop-c-test.true, c.loop-c.invariant.2.in_row)

pub below_wet-below-requires : goal.below_wet-below-requires
below_wet-below-requires c = (c.requires.0, c.loop-c-test.true)

pub bounds-list-k : goal.bounds-list-k
bounds-list-k c =
    let Q = c.loop-c.invariant.2 in
    omega (arith, Q.most, Q.long, c.requires.1, c.loop-c-test.true)

pub overflow_add-k : goal.overflow_add-k
overflow_add-k c =
    let few = c.requires.0.grid.few in
    omega (arith, few, c.loop-c.invariant.2.most, c.from-k.ensures, byte_small c.right_wet-right.result, c.loop-c-test.true)

pub bounds-list-k-in-loop-c : goal.bounds-list-k-in-loop-c
bounds-list-k-in-loop-c c =
    let Q = c.loop-c.invariant.2 in
    let room = c.requires.1 in
    simp length-set
    (omega (arith, Q.most, Q.long, room, c.from-k.ensures, byte_small c.right_wet-right.result, c.loop-c-test.true))

pub overflow_add-k-in-loop-c : goal.overflow_add-k-in-loop-c
overflow_add-k-in-loop-c c =
    let few = c.requires.0.grid.few in
    let right = byte_small c.right_wet-right.result in
    let below = byte_small c.below_wet-below.result in
    omega (arith, few, c.loop-c.invariant.2.most, c.from-k.ensures, right, c.from-k-in-loop-c.ensures, below, c.loop-c-test.true)

pub next_left-left-requires : goal.next_left-left-requires
next_left-left-requires c =
    let a = c.args in
    some_left a.w a.heights.now a.levels.now c.loop-c.invariant.2 c.requires.0.grid.rows.wide

pub loop-c-preserved : goal.loop-c-preserved
loop-c-preserved c =
    let a = c.args in (
      refl,
      omega (arith, c.loop-c-test.true),
      listing_next a.w a.heights.now a.levels.now c.loop-c.invariant.2 c.requires.0.grid.rows.wide
          (omega (arith, c.requires.1, c.loop-c-test.true)) _ _ _
          (c.from-k.ensures ∙ as_number _ ∙ ap (λ (t : Bool). cond {A = ℕ} t 1 0) c.right_wet-right.ensures)
          (c.from-k-in-loop-c.ensures ∙ as_number _ ∙ ap (λ (t : Bool). cond {A = ℕ} t 1 0) c.below_wet-below.ensures) c.next_left-left.ensures,
    )

pub returns : goal.returns
returns c =
    let a = c.args in
    listing_all a.w a.heights.now a.levels.now c.loop-c.invariant.2 (omega arith)

pub shape_of-list : goal.shape_of-list
shape_of-list c = c.loop-c.invariant.2.long
