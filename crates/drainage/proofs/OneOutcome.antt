-- Draining: any two lists that a contract in src/ allows are equal, for whatever land the order and the receivers are.
-- Assumes nothing.
use mathlib.Core.Path.{refl}
use Rattle.lists.proofs.Determined.{one_answer}
use Rattle.lists.specs.Contract.{OneOutcome}
use Rattle.drainage.proofs.drain.Kinds as drain-kinds
use Rattle.drainage.proofs.drain.Reads as drain
use Rattle.drainage.proofs.drain_section.Kinds as drain-section-kinds
use Rattle.drainage.proofs.drain_section.Reads as drain-section

pub drain_one : OneOutcome 4 drain-kinds.ps drain-kinds.r drain.Asked drain.Learnt
    (λ κs a r e. e.1.1.1.0.now)
drain_one κs a p r r' e e' x y = let (L, s, G) = p.0 in (refl, one_answer (x L s G) (y L s G))

pub drain_section_one : OneOutcome 4 drain-section-kinds.ps drain-section-kinds.r drain-section.Asked drain-section.Learnt
    (λ κs a r e. e.1.1.1.1.1.0.now)
drain_section_one κs a p r r' e e' x y = let (L, s, G) = p.0 in (refl, one_answer (x L s G) (y L s G))
