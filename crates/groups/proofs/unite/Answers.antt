-- `groups::unite` meets its contract: the two searches change no root, and where they found two roots, those are joined.
-- Assumes nothing.
use mathlib.Core.Path.{sym, ◌∙◌}
use Prim.Native.Nat.{◌<◌}
use native.Mathlib.Omega.{arith}
use lib.ListN.{length}
use borrow.Author.Tests.{eqb-false, eqb-true}
use Rattle.groups.proofs.Merging.{one_already, one-root, other_root, Searched, searched, two_joined}
use Rattle.groups.specs.Groups.{Root}
use Rattle.groups.proofs.unite.Goals as goal
use Rattle.groups.proofs.unite.Goals.{After-find-q}

-- what the two searches found, and that both are roots
both : (c : After-find-q)
    → let a = c.args in
    let h = c.find-q.new.group in
    let p = c.find-p.result.0 in
    let q = c.find-q.result.0 in
    Searched a.group.now a.a.0 a.b.0 h p q × Root h p × Root h q
both c =
    let a = c.args in
    let h = c.find-q.new.group in
    let s = searched c.find-p.ensures c.find-q.ensures in
    let la : a.a.0 < length h = omega (arith, c.find-p.auto.group, c.find-q.auto.group) in
    let lb : a.b.0 < length h = omega (arith, c.find-p.auto.group, c.find-q.auto.group) in
    (s, one-root s la, other_root s lb)

pub returns-then-eq : goal.returns-then-eq
returns-then-eq c = one_already (both (goal.at.returns-then-eq c).After-find-q).0 (eqb-true _ _ (sym c.eq.ensures ∙ c.if-eq.true))

pub hang-requires : goal.hang-requires
hang-requires c = let b = both (goal.at.hang-requires c).After-find-q in (b.0.groups.down, b.1, b.2)

pub returns : goal.returns
returns c =
    let b = both (goal.at.returns c).After-find-q in
    let j = c.hang in
    two_joined b.0 j.new.group b.1 b.2 (eqb-false _ _ (sym c.eq.ensures ∙ c.if-eq.false)) j.ensures
