-- `record_text::write_refusal` meets its contract: number and place of the answer are those of the refusal.
-- Assumes nothing.
use mathlib.Core.Path.{ap, ◌∙◌}
use Prim.Native.Nat.{ℕ}
use Rattle.ground.specs.Judge.{refusal_number}
use Rattle.text.proofs.Writing.{printed_same}
use Rattle.text.specs.Text.{refused_text}
use Rattle.record_text.proofs.write_refusal.Goals as goal

pub returns : goal.returns
returns c =
    let why = c.args.why in
    printed_same c.write_refused.ensures
    (ap (λ (n : ℕ). refused_text n c.place.result) c.number.ensures
    ∙ ap (refused_text (refusal_number why)) c.place.ensures)
