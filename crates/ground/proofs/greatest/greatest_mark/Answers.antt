-- `ground::greatest::greatest_mark` meets its contract: after some turns `most` is the greatest of the marks that were taken.
-- Assumes nothing.
use mathlib.Core.Path.{ap, refl, ◌∙◌, ◌≡◌}
use native.Mathlib.Omega.{arith}
use lib.ListN.{length}
use borrow.Author.Rules.{rules}
use Rattle.lists.proofs.Greatest.{greatest-next}
use Rattle.lists.proofs.Tab.{tab-is}
use Rattle.lists.specs.Greatest.{greatest}
use Rattle.lists.specs.Lists.{at}
use Rattle.ground.proofs.greatest.greatest_mark.Goals as goal

pub loop-mark-preserved : goal.loop-mark-preserved
loop-mark-preserved c =
    let a = c.args in
    (search rules, omega (arith, greatest-next (at a.marks.now) c.loop-mark.mark-index))

pub returns : goal.returns
returns c =
    let marks = c.args.marks.now in
    let e : c.loop-mark.mark-index ≡ length marks = omega arith in
    c.loop-mark.invariant.1 ∙ rw e (ap greatest (tab-is (at marks) marks (length marks) 0 refl (λ k h. refl)))
