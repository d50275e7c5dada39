-- `network_record::answer_for_c` meets its contract: a refusal packed, or a length.
-- Assumes nothing.
use mathlib.Core.Path.{ap, subst, sym, ◌∙◌}
use Prim.Native.Nat.{◌≤◌}
use native.Mathlib.Omega.{arith}
use Rattle.network_record.specs.ReadAnswer.{length_of}
use Rattle.network_record.specs.RecordCall.{answer_to}
use Rattle.network_record.proofs.answer_for_c.Goals as goal
use Rattle.ground.specs.Judge.{Judged}

pub length_answer-requires : goal.length_answer-requires
length_answer-requires c =
    let short = subst (λ (j : Judged). length_of j ≤ 61468) c.in-Ok.is c.requires in
    omega arith

pub returns-in-Err : goal.returns-in-Err
returns-in-Err c =
    let e = rw c.in-Err.is at c.refusal_answer.ensures in
    e ∙ ap answer_to (sym c.in-Err.is)

pub returns-in-Ok : goal.returns-in-Ok
returns-in-Ok c = c.length_answer.ensures ∙ ap answer_to (sym c.in-Ok.is)
