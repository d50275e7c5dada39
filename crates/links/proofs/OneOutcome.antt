-- Linking: any two lists of masks that a contract in src/ allows are equal, whatever the weights or the masks before say.
-- Assumes nothing.
use mathlib.Core.Path.{refl}
use Rattle.lists.proofs.Determined.{one_answer}
use Rattle.lists.specs.Contract.{OneOutcome}
use Rattle.links.proofs.link_leads.Kinds as link-leads-kinds
use Rattle.links.proofs.link_leads.Reads as link-leads
use Rattle.links.proofs.link_pairs.Kinds as link-pairs-kinds
use Rattle.links.proofs.link_pairs.Reads as link-pairs

pub link_leads-one : OneOutcome 2 link-leads-kinds.ps link-leads-kinds.r link-leads.Asked link-leads.Learnt
    (λ κs a r e. e.1.1.1.1.0.now)
link_leads-one κs a p r r' e e' x y = let (f, K) = p.0 in (refl, one_answer (x f K) (y f K))

pub link_pairs-one : OneOutcome 2 link-pairs-kinds.ps link-pairs-kinds.r link-pairs.Asked link-pairs.Learnt
    (λ κs a r e. e.1.1.0.now)
link_pairs-one κs a p r r' e e' x y = let (n, E, A) = p in (refl, one_answer (x n E A) (y n E A))
