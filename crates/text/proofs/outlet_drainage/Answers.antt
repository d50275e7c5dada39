-- `text::outlet_drainage` meets its contract: after each turn the total is that of one cell more, and no more than all can have.
-- Assumes nothing.
use mathlib.Core.Path.{refl, sym, ◌∙◌, ◌≡◌}
use native.Mathlib.Omega.{arith}
use borrow.Author.Rules.{rules}
use Rattle.text.proofs.Sums.{outlet_drainage-next}
use Rattle.text.specs.Text.{outlet_drainage}
use Rattle.text.proofs.outlet_drainage.Goals as goal

pub loop-c-init : goal.loop-c-init
unfolding outlet_drainage
loop-c-init c = (search rules, refl, search rules)

pub loop-c-preserved : goal.loop-c-preserved
loop-c-preserved c =
    let w = c.outlet_share-total.ensures in
    let a = c.args in (
      search rules,
      rw (c.loop-c.invariant.1, w.0) (sym (outlet_drainage-next a.drainage.now a.marks.now c.loop-c.c)),
      omega arith,
    )

pub returns : goal.returns
returns c =
    let e : c.loop-c.c ≡ c.args.n = omega arith in
    c.loop-c.invariant.1 ∙ rw e
