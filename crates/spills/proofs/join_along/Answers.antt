-- `spills::join_along` meets its contract: after i pairs the groups follow these, and the notes say how.
-- Assumes nothing.
use mathlib.Core.List.{List}
use mathlib.Core.Path.{ap, refl, subst, ◌∙◌, ◌≡◌}
use Prim.Native.Nat.{ℕ}
use native.Mathlib.Omega.{arith}
use lib.ListN.{length, take}
use lib.Seq.{take-length}
use Rattle.lists.proofs.At.{at_member}
use Rattle.lists.specs.Lists.{at}
use Rattle.spills.proofs.Begun.{noting_none}
use Rattle.spills.proofs.NoteTurns.{noting_next}
use Rattle.spills.proofs.Under.{greater_on}
use Rattle.spills.specs.Noting.{Noting}
use Rattle.spills.proofs.join_along.Goals as goal

pub loop-p-init : goal.loop-p-init
loop-p-init c =
    let a = c.args in (
      refl,
      omega arith,
      refl,
      refl,
      λ heights S. noting_none a.w heights a.labels.now a.group.now a.notes.now c.requires.group_value.0 c.requires.group_value.1 c.requires.group_value.2,
    )

pub join-requires : goal.join-requires
join-requires c =
    let list = c.args.list.now in
    let S = c.requires.by_index.1 in
    let Q = c.loop-p.invariant.4 c.requires.by_index.0 S in record {
      w_nonzero = (
        S.wide,
        S.narrow,
        omega (arith, S.labelled, S.few),
        greater_on S (at list c.loop-p.p-index) (at_member list c.loop-p.p-index c.loop-p-test.true),
        Q.groups.down,
      );
      group_in_bounds = (omega (arith, Q.sized, Q.room), λ k h. omega (arith, S.small k h, Q.sized));
    }

pub loop-p-preserved : goal.loop-p-preserved
loop-p-preserved c =
    let j = c.join in
    let v = c.loop-p.invariant in
    let i = c.loop-p.p-index in
    let kg = j.auto.group in (
      refl,
      omega arith,
      kg ∙ v.2,
      j.auto.notes ∙ v.3,
      λ heights S. noting_next S i c.loop-p-test.true (v.4 heights S) j.ensures.0 kg j.ensures.1,
    )

pub returns : goal.returns
returns c =
    let a = c.args in
    let list = a.list.now in
    let e : c.loop-p.p-index ≡ length list = omega arith in
    λ heights S.
    subst (λ (l : List ℕ). Noting a.w heights a.labels.now l c.loop-p.group c.loop-p.notes)
    (ap (λ (n : ℕ). take n list) e ∙ take-length list) (c.loop-p.invariant.4 heights S)

pub shape_of-group : goal.shape_of-group
shape_of-group c = c.loop-p.invariant.2

pub shape_of-notes : goal.shape_of-notes
shape_of-notes c = c.loop-p.invariant.3
