-- `groups::find` meets its contract. The loop keeps all roots, and the root of x is that of l. Each turn goes to a lesser x.
-- Assumes nothing.
use mathlib.Core.Path.{ap, refl, sym, ◌∙◌}
use Prim.Native.Nat.{◌<◌}
use native.Mathlib.Nat.{le_trans}
use native.Mathlib.Omega.{arith}
use lib.ListN.{length, length-set}
use Rattle.groups.proofs.Roots.{down_set, halved, root_self, root_step}
use Rattle.groups.specs.Groups.{root_of}
use Rattle.lists.specs.Lists.{at}
use Rattle.groups.proofs.find.Goals as goal

pub loop-x-init : goal.loop-x-init
loop-x-init g c = (
  refl,
  rw c.number-x.ensures c.requires.0,
  record { down = c.requires.1; roots = λ x. refl },
  ap (root_of c.args.group.now) c.number-x.ensures,
)

pub returns-then-up-x : goal.returns-then-up-x
returns-then-up-x g c =
    let s = c.loop-x.invariant.2 in
    let x = c.loop-x.x in
    (c.of.ensures ∙ sym (root_self c.loop-x.group s.down x (rw c.from-i.ensures at c.if-up-x.true)) ∙ s.roots x ∙ c.loop-x.invariant.3, s)

pub loop-x-smaller : goal.loop-x-smaller
loop-x-smaller g c =
    let d = c.loop-x.invariant.2.down in
    let x = c.loop-x.x in
    omega (arith, d x, d (at c.loop-x.group x), c.if-up-x.false)

pub loop-x-preserved : goal.loop-x-preserved
loop-x-preserved g c =
    let l = c.loop-x.group in
    let s = c.loop-x.invariant.2 in
    let d = s.down in
    let x = c.loop-x.x in
    let h : x < length l = c.loop-x.invariant.1 in
    let next = at l x in
    let top = at l next in
    let e = length-set l x top in
    rw (c.from.ensures, c.from-i.ensures) (
      e ∙ c.loop-x.invariant.0,
      omega (arith, e, d x, d next),
      record { down = down_set l x top d h (le_trans (d next) (d x)); roots = λ y. halved l d x h y ∙ s.roots y },
      sym (s.roots top) ∙ root_step l d next ∙ root_step l d x ∙ s.roots x ∙ c.loop-x.invariant.3,
    )

pub shape_of-group-then-up-x : goal.shape_of-group-then-up-x
shape_of-group-then-up-x g c = c.loop-x.invariant.0

pub bounds-group-i : goal.bounds-group-i
bounds-group-i g c = omega arith

pub bounds-group-from : goal.bounds-group-from
bounds-group-from g c = omega (arith, c.loop-x.invariant.2.down c.from-i.result)
