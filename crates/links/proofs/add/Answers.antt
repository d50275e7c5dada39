-- `links::add` meets its contract: at turn c the cells before c - after have what their neighbours add, and the others are as they
-- were, so that each sum fits.
-- Assumes nothing.
use native.Mathlib.Omega.{arith}
use borrow.Author.Rules.{rules}
use Rattle.links.proofs.FlatPasses.{pass_all, pass_fits, pass_next, pass_none}
use Rattle.links.proofs.add.Goals as goal

pub loop-c-init : goal.loop-c-init
loop-c-init c =
    let a = c.args in
    (omega arith, omega arith, pass_none a.after a.before a.weights.now a.weight a.more a.links.now)

pub overflow_add-links : goal.overflow_add-links
overflow_add-links c =
    let a = c.args in
    let fits =
    pass_fits a.after a.before a.weights.now a.weight a.more c.loop-c.c a.n a.links.now c.loop-c.links
    c.loop-c.invariant.0 (search rules) c.requires.fits c.loop-c.invariant.2 c.more_if.ensures in
    omega arith

pub loop-c-preserved : goal.loop-c-preserved
loop-c-preserved c =
    let a = c.args in
    let i = c.loop-c.invariant in
    let next =
    pass_next a.after a.before a.weights.now a.weight a.more c.loop-c.c a.links.now c.loop-c.links i.0
    (search rules) i.2 c.more_if.ensures in
    (search rules, search rules, next)

pub returns : goal.returns
returns c =
    let a = c.args in
    pass_all a.after a.before a.weights.now a.weight a.more c.loop-c.c a.n a.links.now c.loop-c.links
    (omega arith) c.loop-c.invariant.2
