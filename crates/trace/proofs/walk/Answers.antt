-- `trace::walk` meets its contract. The invariant of its loop: the cell is on the list, and the trace from the start is the trace from
-- here with the steps that are left, which are the measure.
-- Assumes nothing.
use mathlib.Core.Path.{ap, sym, ◌∙◌, ◌≡◌}
use Prim.Native.Nat.{suc, ℕ, ◌+◌, ◌-◌, ◌<◌}
use native.Mathlib.Nat.{sub-zero}
use native.Mathlib.Numerals.{add-one}
use native.Mathlib.Omega.{arith}
use borrow.Author.Rules.{rules}
use Rattle.lists.specs.Lists.{at}
use Rattle.rules.proofs.TraceSteps.{Onward, trace_from_outlet, trace_from_outside, trace_from_spent, trace_from_step}
use Rattle.rules.specs.Trace.{trace_from}
use Rattle.trace.proofs.walk.Goals as goal

pub steps-init : goal.steps-init
steps-init c = (c.requires.0, search rules, rw sub-zero)

pub overflow_cast-index : goal.overflow_cast-index
overflow_cast-index c = omega (arith, c.shared_slice_known-1.given c.steps.cell)

pub returns-then-receivers-index : goal.returns-then-receivers-index
returns-then-receivers-index c =
    let a = c.args in
    sym (c.steps.invariant.2 ∙ trace_from_outside a.receivers.now (a.limit - c.steps.steps) c.steps.steps c.steps.cell
    c.if-receivers-index.true)

pub returns-then-entry-cell : goal.returns-then-entry-cell
returns-then-entry-cell c =
    let a = c.args in
    sym
    (c.steps.invariant.2
    ∙ trace_from_outlet a.receivers.now (a.limit - c.steps.steps) c.steps.steps c.steps.cell c.if-receivers-index.false c.if-entry-cell.true)

pub returns-then-steps-limit : goal.returns-then-steps-limit
returns-then-steps-limit c =
    let a = c.args in
    let e : a.limit - c.steps.steps ≡ 0 = omega arith in
    let o : Onward a.receivers.now c.steps.cell = record { inside = c.if-receivers-index.false; moves = c.if-entry-cell.false } in
    sym (c.steps.invariant.2 ∙ rw e (trace_from_spent a.receivers.now c.steps.steps c.steps.cell o))

pub steps-preserved : goal.steps-preserved
steps-preserved c =
    let a = c.args in
    let k = a.limit - (c.steps.steps + 1) in
    let s : c.steps.steps < a.limit = omega arith in
    let e : a.limit - c.steps.steps ≡ suc k = omega arith in
    let o : Onward a.receivers.now c.steps.cell = record { inside = c.if-receivers-index.false; moves = c.if-entry-cell.false } in (
      c.if-receivers-index.false,
      omega arith,
      c.steps.invariant.2
          ∙ rw e (trace_from_step a.receivers.now k c.steps.steps c.steps.cell o)
          ∙ ap (λ (s : ℕ). trace_from a.receivers.now k s (at a.receivers.now c.steps.cell)) (sym (add-one c.steps.steps)),
    )
