-- `spills::most_of` meets its contract: after each turn it is the greatest of the labels so far.
-- Assumes nothing.
use mathlib.Core.Path.{ap, refl, ◌∙◌, ◌≡◌}
use native.Mathlib.Omega.{arith}
use lib.ListN.{length}
use borrow.Author.Rules.{rules}
use Rattle.lists.proofs.Greatest.{greatest-next}
use Rattle.lists.proofs.Tab.{tab-is}
use Rattle.lists.specs.Greatest.{greatest}
use Rattle.lists.specs.Lists.{at}
use Rattle.spills.proofs.most_of.Goals as goal

pub loop-label-init : goal.loop-label-init
loop-label-init c = (refl, search rules, refl)

pub loop-label-preserved : goal.loop-label-preserved
loop-label-preserved c =
    let a = c.args in
    (refl, search rules, rw (c.max-found.ensures, c.loop-label.invariant.2) (greatest-next (at a.labels.now) c.loop-label.label-index))

pub returns : goal.returns
returns c =
    let labels = c.args.labels.now in
    let e : c.loop-label.label-index ≡ length labels = omega arith in
    c.loop-label.invariant.2 ∙ rw e (ap greatest (tab-is (at labels) labels (length labels) 0 refl (λ k h. refl)))
