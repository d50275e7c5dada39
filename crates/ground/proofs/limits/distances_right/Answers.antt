-- `ground::limits::distances_right` meets its contract: the three tests of the code are the definition's.
-- Assumes nothing.
use mathlib.Core.Path.{sym, ◌∙◌}
use borrow.Author.Tests.{eq-eqb, ne_eqb}
use Rattle.ground.proofs.limits.distances_right.Goals as goal

pub returns-then-read-n-2 : goal.returns-then-read-n-2
returns-then-read-n-2 c =
    let e1 = sym c.read.ensures ∙ c.if-read-n.true in
    let e2 = sym c.read-then-read-n.ensures ∙ c.if-read-n-2.true in
    rw (c.read-then-read-n-2.ensures, eq-eqb _ _ e2, eq-eqb _ _ e1)

pub returns-else-read-n-2 : goal.returns-else-read-n-2
returns-else-read-n-2 c =
    let e1 = sym c.read.ensures ∙ c.if-read-n.true in
    rw (c.read-then-read-n.ensures, eq-eqb _ _ e1, ne_eqb _ _ (λ e. c.if-read-n-2.false (c.read-then-read-n.ensures ∙ e)))

pub returns-else-read-n : goal.returns-else-read-n
returns-else-read-n c = rw (c.read.ensures, ne_eqb _ _ (λ e. c.if-read-n.false (c.read.ensures ∙ e)))
