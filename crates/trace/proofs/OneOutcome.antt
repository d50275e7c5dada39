-- Any two answers that the contract of the trace allows are equal. The contract is that in src/.
-- Assumes nothing.
use mathlib.Core.Path.{sym, ◌∙◌}
use Rattle.lists.specs.Contract.{OneAnswer}
use Rattle.trace.proofs.Answers.{trace-one}
use Rattle.trace.proofs.trace.Kinds as trace-kinds
use Rattle.trace.proofs.trace.Reads as trace

pub trace_call_one : OneAnswer 1 trace-kinds.ps trace-kinds.r trace.Asked trace.Learnt
trace_call_one κs a p r r' e e' x y = trace-one r r' (x ∙ sym y)
