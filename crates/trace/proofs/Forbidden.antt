-- The impostor that invents the steps: a trace and its answer there, which the contract of `trace` forbids.
-- Assumes nothing.
use mathlib.Core.Path.{ap, sym, ◌∙◌, ◌≡◌}
use Prim.Native.Nat.{ℕ}
use native.Mathlib.Omega.{arith}
use Rattle.kinds.specs.Kinds.{as_cell}
use Rattle.rules.specs.Samples.{receivers_g}
use Rattle.rules.specs.Trace.{reached, refused, stopped, trace, Traced, trace_from}
use Rattle.trace.specs.Answer.{answer_of}
use Rattle.std.specs.Prelude.{Ok}
use Rattle.std.specs.declared.result.Result.{Result}
use Rattle.trace.specs.declared.TraceEnd.{TraceEnd}
use Rattle.trace.specs.declared.TraceEnd.TheVariants.{Outlet}
use Rattle.trace.specs.declared.TraceRefusal.{TraceRefusal}

abbrev steps_of : Traced → ℕ
steps_of (reached o s) = s
steps_of (stopped c s) = s
steps_of (refused n p) = 0

-- on the receivers of sample G four steps lead from cell 1 to the outlet, and the impostor answers the budget, which is 6
pub invented_steps : (a : Result TraceEnd TraceRefusal) → answer_of a ≡ trace receivers_g 1 6 → a ≡ Ok (Outlet (as_cell 5) 6) → ⊥
unfolding trace trace_from
invented_steps a said e = let f = ap steps_of (ap answer_of (sym e) ∙ said) in omega (arith, f)
