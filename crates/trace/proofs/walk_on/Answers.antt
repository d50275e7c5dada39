-- `trace::walk_on` meets its contract: a trace that ended is the same under any larger budget, and one that did not is on a ring.
-- Assumes nothing.
use Rattle.std.proofs.Common.{rules, arith, ap, sym, ◌∙◌, ◌≡◌, ℕ, List, length, ◌+◌, ◌-◌, ◌<◌}
use Rattle.std.specs.Prelude.{Ok, Err}
use Rattle.rules.proofs.TraceSteps.{trace_from_ended}
use Rattle.rules.specs.Trace.{stopped, trace_from, Traced}
use Rattle.trace.proofs.Ring.{stopped_later, stopped_on_ring}
use Rattle.trace.specs.Answer.{answer_of}
use Rattle.trace.specs.declared.TraceRefusal.{TraceRefusal}
use Rattle.trace.specs.declared.TraceRefusal.TheVariants.{BadCell, BadEntry, BadList}
use Rattle.trace.proofs.walk_on.Goals as goal

-- an answer of a walk of n steps that is no stop is that of a walk with a larger budget
longer : (r : List ℕ) (n budget c : ℕ) (a : Traced) → n < budget → a ≡ trace_from r n 0 c → ((d t : ℕ) → a ≡ stopped d t → ⊥)
    → a ≡ trace_from r budget 0 c
longer r n budget c a l e never =
    let m : n + (budget - n) ≡ budget = omega arith in
    e ∙ sym (trace_from_ended r n (budget - n) 0 c (λ d t q. never d t (e ∙ q))) ∙ ap (λ (k : ℕ). trace_from r k 0 c) m

-- a refusal is no stop
refusal_stays : (e : TraceRefusal) (d t : ℕ) → answer_of (Err e) ≡ stopped d t → ⊥
refusal_stays BadList d t q = cc
refusal_stays BadCell d t q = cc
refusal_stays (BadEntry c) d t q = cc

pub returns-in_err-outlet : goal.returns-in_err-outlet
returns-in_err-outlet c =
    let a = c.args in
    let why = c.in_err-outlet.field-0.0 in
    let e : c.from_residual.result ≡ Err why = search rules in
    ap answer_of e
    ∙ longer a.receivers.now (length a.receivers.now) a.budget a.start.0 _ (omega arith) c.in_err-outlet.ensures (refusal_stays why)

pub returns-in-Outlet : goal.returns-in-Outlet
returns-in-Outlet c =
    longer c.args.receivers.now (length c.args.receivers.now) c.args.budget c.args.start.0 _ (omega arith)
    (ap (λ a. answer_of (Ok a)) (sym c.in-Outlet.is) ∙ c.in_ok-outlet.ensures) (λ d t q. cc)

pub cell_on_ring-last-requires : goal.cell_on_ring-last-requires
cell_on_ring-last-requires c =
    stopped_on_ring c.args.receivers.now c.args.start.0 c.requires.0
    (sym (c.in_ok-outlet.ensures) ∙ ap (λ a. answer_of (Ok a)) c.in-Stopped.is) c.requires.1

pub returns-in-Stopped : goal.returns-in-Stopped
returns-in-Stopped c =
    stopped_later c.args.receivers.now c.args.start.0 c.requires.0
    (sym (c.in_ok-outlet.ensures) ∙ ap (λ a. answer_of (Ok a)) c.in-Stopped.is)
    c.args.budget c.cell_on_ring-last.result.0 (omega arith) c.cell_on_ring-last.ensures
