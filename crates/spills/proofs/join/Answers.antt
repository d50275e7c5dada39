-- `spills::join` meets its contract: the two searches change no group. Where they found two roots, those are joined and noted.
-- Assumes nothing.
use mathlib.Core.Path.{sym, ◌∙◌, ◌≡◌}
use native.Mathlib.Omega.{arith}
use lib.ListN.{length}
use borrow.Author.Tests.{eqb-false, eqb-true}
use Rattle.groups.proofs.Merging.{one_already, one-root, other_root, Searched, searched, two_joined}
use Rattle.groups.specs.Groups.{Root}
use Rattle.lists.specs.Lists.{at}
use Rattle.pairs.proofs.Pairs.{pair_climbs}
use Rattle.pairs.specs.Pairs.{greater_of, lesser_of}
use Rattle.spills.proofs.Noted.{found_at, found_one, found_two}
use Rattle.spills.proofs.join.Goals as goal
use Rattle.spills.proofs.join.Goals.{After-find_basin-s}

-- what the two searches found: two roots, in a list of groups that is as long as before
both : (c : After-find_basin-s)
    → let a = c.args in
    let h = c.find_basin-s.new.group in
    let r = c.find_basin-r.result.0 in
    let s = c.find_basin-s.result.0 in
    Searched a.group.now (at a.labels.now (lesser_of a.p)) (at a.labels.now (greater_of a.w a.p)) h r s × Root h r × Root h s
    × (length h ≡ length a.group.now)
both c =
    let in-groups = c.requires.group_in_bounds.1 in
    let a = c.args in
    let F = searched
    (found_at a.group.now c.find_basin-r.new.group a.labels.now _ _ _ (c.index.ensures.0 ∙ c.lesser-a.ensures) c.find_basin-r.ensures)
    (found_at c.find_basin-r.new.group c.find_basin-s.new.group a.labels.now _ _ _ (c.index-2.ensures.0 ∙ c.greater-b.ensures) c.find_basin-s.ensures) in
    let long = c.find_basin-s.auto.group ∙ c.find_basin-r.auto.group in
    let rise = pair_climbs c.args.w c.args.p c.requires.w_nonzero.0 in
    let la = in-groups (lesser_of c.args.p) (omega (arith, c.requires.w_nonzero.3, rise)) in
    let lb = in-groups (greater_of c.args.w c.args.p) c.requires.w_nonzero.3 in
    (F, one-root F (omega (arith, long, la)), other_root F (omega (arith, long, lb)), long)

pub bounds-labels-index : goal.bounds-labels-index
bounds-labels-index c =
    omega (arith, c.requires.w_nonzero.3, c.lesser-a.ensures, pair_climbs c.args.w c.args.p c.requires.w_nonzero.0)

pub find_basin-r-requires : goal.find_basin-r-requires
find_basin-r-requires c =
    let rise = pair_climbs c.args.w c.args.p c.requires.w_nonzero.0 in
    let la = c.requires.group_in_bounds.1 (lesser_of c.args.p) (omega (arith, c.requires.w_nonzero.3, rise)) in
    (rw (c.index.ensures.0, c.lesser-a.ensures) la, c.requires.w_nonzero.4)

pub find_basin-s-requires : goal.find_basin-s-requires
find_basin-s-requires c =
    let lb = c.requires.group_in_bounds.1 (greater_of c.args.w c.args.p) c.requires.w_nonzero.3 in
    (rw (c.index-2.ensures.0, c.greater-b.ensures) (omega (arith, lb, c.find_basin-r.auto.group)), c.find_basin-r.ensures.1.down)

pub returns-then-eq : goal.returns-then-eq
returns-then-eq c =
    let a = c.args in
    let F = (both (goal.at.returns-then-eq c).After-find_basin-s).0 in (
      (one_already F (eqb-true _ _ (sym c.eq.ensures ∙ c.if-eq.true))).1,
      found_one a.group.now (at a.labels.now (lesser_of a.p)) (at a.labels.now (greater_of a.w a.p)) a.p a.notes.now F
          (eqb-true _ _ (sym c.eq.ensures ∙ c.if-eq.true)),
    )

pub hang_basins-requires : goal.hang_basins-requires
hang_basins-requires c = let b = both (goal.at.hang_basins-requires c).After-find_basin-s in (b.0.groups.down, b.1, b.2)

pub note-requires : goal.note-requires
note-requires c =
    let b = both (goal.at.note-requires c).After-find_basin-s in
    let room = c.requires.group_in_bounds.0 in
    (omega (arith, b.1.0, b.3, room), omega (arith, b.2.0, b.3, room))

pub returns : goal.returns
returns c =
    let a = c.args in
    let b = both (goal.at.returns c).After-find_basin-s in
    let two = eqb-false _ _ (sym c.eq.ensures ∙ c.if-eq.false) in
    let j = c.hang_basins in (
      (two_joined b.0 j.new.group b.1 b.2 two j.ensures).1,
      found_two a.group.now (at a.labels.now (lesser_of a.p)) (at a.labels.now (greater_of a.w a.p)) a.p a.notes.now b.0 two
          c.note.ensures,
    )
