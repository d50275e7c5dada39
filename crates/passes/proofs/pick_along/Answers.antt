-- `passes::pick_along` meets its contract: after i pairs the picked ones stand at the front, and the groups follow all i.
-- Assumes nothing.
use mathlib.Core.Path.{ap, refl, sym, ◌∙◌, ◌≡◌}
use Prim.Native.Nat.{◌<◌}
use native.Mathlib.Omega.{arith}
use lib.ListN.{length}
use Rattle.lists.proofs.Range.{range_length}
use Rattle.passes.proofs.PickTurns.{greater_on, labels_in, picking_all, picking_next, picking_none}
use Rattle.std.specs.Prelude.{Bool, cond, false, true}
use mir.Val.{bool_byte}
use Rattle.passes.proofs.pick_along.Goals as goal

-- a bool as a number
as_number : (b : Bool) → bool_byte b ≡ cond b 1 0
as_number true = refl
as_number false = refl

pub loop-i-init : goal.loop-i-init
loop-i-init c = (refl, omega arith, picking_none _ _ _ _ c.requires.group_value)

pub join-joined-requires : goal.join-joined-requires
join-joined-requires c =
    let given = c.requires.w_nonzero.2 in
    let Q = c.loop-i.invariant.2 in
    let l : c.loop-i.i < length c.args.list.now = omega (arith, Q.long, c.loop-i-test.true) in
    record {
      w_nonzero = (c.requires.w_nonzero.0, c.requires.w_nonzero.1, given.1.few, Q.groups.down);
      p_in_bounds = (greater_on Q given l, labels_in Q given l);
    }

pub bounds-list-m : goal.bounds-list-m
bounds-list-m c =
    omega (arith, c.loop-i.invariant.2.behind, c.loop-i-test.true)

pub loop-i-preserved : goal.loop-i-preserved
loop-i-preserved c =
    let j = c.join-joined in
    let given = c.requires.w_nonzero.2 in
    let Q = c.loop-i.invariant.2 in
    let counted = c.from-m.ensures ∙ as_number j.result ∙ j.ensures.0 in (
      refl,
      omega (arith, Q.long, c.loop-i-test.true),
      picking_next Q given (omega (arith, Q.long, c.loop-i-test.true)) _ _ counted j.ensures.1 j.auto.group,
    )

pub shape_of-group : goal.shape_of-group
shape_of-group c =
    let given = ap length c.requires.group_value ∙ range_length 4097 0 in
    c.loop-i.invariant.2.sized ∙ sym given

pub returns : goal.returns
returns c =
    picking_all c.loop-i.invariant.2 (omega (arith, c.loop-i.invariant.2.long, c.loop-i-test.false))

pub shape_of-list : goal.shape_of-list
shape_of-list c = c.loop-i.invariant.2.long
