-- From the record call to its answer for C: an outcome's answer can be packed, and packed it is an outcome for C.
-- Assumes nothing.
use mathlib.Core.List.{List}
use mathlib.Core.Path.{ap, subst, sym, ◌∙◌, ◌≡◌}
use Prim.Native.Nat.{ℕ, ◌≤◌}
use Rattle.network_record.proofs.Answers.{lengths_short}
use Rattle.network_record.specs.ReadAnswer.{length_of}
use Rattle.network_record.specs.RecordCall.{answer_to, CalledBy, CalledFromCBy, left_record_by}
use Rattle.grid.specs.declared.Neighbours.{Neighbours}
use Rattle.rules.specs.declared.Manner.{Manner}
use Rattle.ground.specs.Judge.{Judged}

module _ (N : Neighbours) (M : Manner) (ground lent : List ℕ) {j : Judged} {after : List ℕ} (o : CalledBy N M ground lent j after) where
  pub packable : length_of j ≤ 61468
  packable = subst (λ (k : Judged). length_of k ≤ 61468) (sym o.answer) (lengths_short ground lent)

  pub packed : {r : ℕ} → r ≡ answer_to j → CalledFromCBy N M ground lent r after
  packed e = record { answer = e ∙ ap answer_to o.answer; lists = o.lists ∙ ap (left_record_by N M ground lent) o.answer }
