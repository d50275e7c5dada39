-- `spills::raise` meets its contract: after c turns the first c heights are raised, and the rest is as it was.
-- Assumes nothing.
use mathlib.Core.List.{List}
use mathlib.Core.Path.{ap, refl, sym, ◌∙◌, ◌≡◌}
use Prim.Native.Nat.{max, ℕ}
use native.Mathlib.Nat.{le_refl}
use native.Mathlib.Omega.{arith}
use lib.ListN.{length, length-set}
use Rattle.lists.proofs.Filled.{filled_none, filled_past, filled_put}
use Rattle.lists.specs.Lists.{at, filled}
use Rattle.spills.proofs.raise.Invariants.{level}
use Rattle.spills.proofs.raise.Goals as goal

pub loop-c-init : goal.loop-c-init
loop-c-init c =
    let a = c.args in
    (omega arith, refl, sym (filled_none (level a.labels.now a.spills.now a.heights.now) a.heights.now))

pub bounds-spills-from : goal.bounds-spills-from
bounds-spills-from c =
    rw c.from.ensures
    (c.requires.by_index c.loop-c.c (omega (arith, c.requires.labels_len.0, c.loop-c.invariant.1, c.loop-c-test.true)))

pub loop-c-preserved : goal.loop-c-preserved
loop-c-preserved c =
    let a = c.args in
    let k = c.loop-c.c in
    let v = c.loop-c.invariant in
    let old = a.heights.now in
    let f = level a.labels.now a.spills.now old in
    let same : at c.loop-c.heights k ≡ at old k = ap (λ (l : List ℕ). at l k) v.2 ∙ filled_past f k old k (le_refl k) in (
      omega arith,
      length-set c.loop-c.heights k c.max.result ∙ v.1,
      filled_put f k _ old (omega arith) v.2 refl
          ((rw c.from.ensures at c.max.ensures) ∙ ap (λ (x : ℕ). max x (at a.spills.now (at a.labels.now k))) same) refl,
    )

pub returns : goal.returns
returns c =
    let a = c.args in
    let old = a.heights.now in
    let e : c.loop-c.c ≡ length old = omega arith in
    c.loop-c.invariant.2 ∙ ap (λ (n : ℕ). filled (level a.labels.now a.spills.now old) n old) e

pub shape_of-heights : goal.shape_of-heights
shape_of-heights c = c.loop-c.invariant.1
