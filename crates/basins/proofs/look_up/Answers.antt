-- `basins::look_up` meets its contract.
-- After c turns both lists are filled up to c; the entry at c has not changed yet, so that the cell it names is still there to look up.
-- Assumes nothing.
use mathlib.Core.List.{List}
use mathlib.Core.Path.{ap, sym, ◌∙◌, ◌≡◌}
use Prim.Native.Nat.{ℕ, ◌<◌}
use native.Mathlib.Omega.{arith}
use lib.ListN.{set}
use Rattle.basins.specs.Labels.{label_by}
use Rattle.lists.proofs.Filled.{filled_next, filled_none, filled_past}
use Rattle.lists.specs.Lists.{at}
use Rattle.rules.specs.Ground.{is_outlet}
use Rattle.basins.proofs.look_up.Invariants.{number_of, labelFrom}
use Rattle.basins.proofs.look_up.Goals as goal
use Rattle.basins.proofs.look_up.Goals.{In-loop-c}

-- the entry at this turn's cell has not changed, and is a cell
as_before : (c : In-loop-c)
    → at c.loop-c.entries c.loop-c.c ≡ at c.args.entries.now c.loop-c.c
as_before c =
    let a = c.args in
    ap (λ (l : List ℕ). at l c.loop-c.c) c.loop-c.invariant.0
    ∙ filled_past (number_of a.numbers.now a.entries.now) c.loop-c.c a.entries.now c.loop-c.c (omega arith)

in_tile : (c : In-loop-c) → at c.loop-c.entries c.loop-c.c < c.args.n
in_tile c = rw (as_before c) (c.requires.n_in_bounds.2 c.loop-c.c c.loop-c-test.true)

pub loop-c-init : goal.loop-c-init
loop-c-init c = (sym (filled_none _ _), sym (filled_none _ _))

pub bounds-numbers-d : goal.bounds-numbers-d
bounds-numbers-d c =
    omega (arith, in_tile (goal.at.bounds-numbers-d c).In-loop-c, c.from-d.ensures, c.requires.n_in_bounds.0)

pub bounds-marks-d : goal.bounds-marks-d
bounds-marks-d c =
    omega (arith, in_tile (goal.at.bounds-marks-d c).In-loop-c, c.from-d.ensures, c.requires.n_in_bounds_2.0)

pub loop-c-preserved : goal.loop-c-preserved
loop-c-preserved c =
    let a = c.args in
    let P = c.requires in
    let same : c.from-d.result ≡ at a.entries.now c.loop-c.c = c.from-d.ensures ∙ as_before (goal.at.loop-c-preserved c).In-loop-c in
    let f = number_of a.numbers.now a.entries.now in
    let g = labelFrom a.n a.numbers.now a.marks.now a.entries.now in (
      ap (λ (d : ℕ). set c.loop-c.entries c.loop-c.c (at a.numbers.now d)) same
          ∙ rw c.loop-c.invariant.0 (filled_next f c.loop-c.c a.entries.now (omega (arith, c.loop-c-test.true, P.n_in_bounds.1))),
      ap (set c.loop-c.labels c.loop-c.c)
          (rw c.is_outlet.ensures at c.label_of.ensures
          ∙ ap (λ (d : ℕ). label_by a.n (is_outlet a.marks.now d) (at a.numbers.now d)) same)
          ∙ rw c.loop-c.invariant.1 (filled_next g c.loop-c.c a.labels.now (omega (arith, c.loop-c-test.true, P.n_in_bounds_2.1))),
    )
