-- Choosing: any two outcomes that the contract in src/ allows are equal, but for what is past the pairs that are counted and in the spare list.
-- Assumes nothing.
use mathlib.Core.Path.{ap, sym, ◌∙◌}
use lib.ListN.{length, take}
use lib.Seq.{length-take-le}
use Rattle.lists.specs.Contract.{OneOutcome}
use Rattle.passes.proofs.Choosing.{chose_same}
use Rattle.passes.proofs.choose_pairs.Kinds as choose-pairs-kinds
use Rattle.passes.proofs.choose_pairs.Reads as choose-pairs

-- the number of pairs, and the pairs
pub choose_pairs-one : OneOutcome 4 choose-pairs-kinds.ps choose-pairs-kinds.r choose-pairs.Asked choose-pairs.Learnt
    (λ κs a r e. take r e.1.1.1.1.0.now)
choose_pairs-one κs a p r r' e e' x y =
    let (marks, C) = p.0 in
    let same = chose_same (x.pairs marks C) (y.pairs marks C) in
    (sym (length-take-le r e.1.1.1.1.0.now x.within) ∙ ap length same ∙ length-take-le r' e'.1.1.1.1.0.now y.within, same)
