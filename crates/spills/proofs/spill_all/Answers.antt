-- `spills::spill_all` meets its contract: after b turns spills stand below b, and notes from b on.
-- Assumes nothing.
use mathlib.Core.Path.{subst, ◌≡◌}
use Prim.Native.Nat.{ℕ}
use native.Mathlib.Omega.{arith}
use Rattle.spills.proofs.InPlace.{in_place-all, in_place-next, in_place-none, read_here}
use Rattle.spills.specs.Noting.{SpillsBy}
use Rattle.spills.proofs.spill_all.Goals as goal

pub loop-b-init : goal.loop-b-init
loop-b-init c = let a = c.args in (omega arith, in_place-none a.w a.heights.now a.notes.now)

pub spill_of-requires : goal.spill_of-requires
spill_of-requires c =
    let I = c.loop-b.invariant.1 in (
      c.requires.w_nonzero.0,
      c.requires.w_nonzero.1,
      c.requires.w_nonzero.2,
      read_here I c.requires.by_index (omega (arith, c.loop-b-test.true, c.requires.w_nonzero.3))
          (omega (arith, c.loop-b-test.true, I.long, c.requires.w_nonzero.3, c.requires.w_nonzero.4)),
    )

-- the turn's label has its place in the list
pub slice_reshared_read-spill_of : goal.slice_reshared_read-spill_of
slice_reshared_read-spill_of c =
    omega (arith, c.loop-b.invariant.1.long, c.requires.w_nonzero, c.loop-b-test.true)

pub bounds-notes-b : goal.bounds-notes-b
bounds-notes-b c =
    omega (arith, c.loop-b.invariant.1.long, c.requires.w_nonzero, c.loop-b-test.true)

pub loop-b-preserved : goal.loop-b-preserved
loop-b-preserved c =
    let I = c.loop-b.invariant.1 in (
      omega (arith, c.loop-b-test.true),
      in_place-next I c.requires.by_index c.spill_of.result (omega (arith, c.loop-b-test.true, c.requires.w_nonzero.3))
          (omega (arith, c.loop-b-test.true, I.long, c.requires.w_nonzero.3, c.requires.w_nonzero.4)) c.spill_of.ensures,
    )

pub returns : goal.returns
returns c =
    let a = c.args in
    let all : c.loop-b.b ≡ a.top = omega (arith, c.loop-b.invariant.0, c.loop-b-test.false) in
    subst (λ (k : ℕ). SpillsBy a.w a.heights.now a.notes.now k c.loop-b.notes) all (in_place-all c.loop-b.invariant.1)

pub shape_of-notes : goal.shape_of-notes
shape_of-notes c = c.loop-b.invariant.1.long
