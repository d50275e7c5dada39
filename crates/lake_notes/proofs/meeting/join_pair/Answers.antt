-- `lake_notes::join_pair` meets its contract: the two searches change no group. Where they found two roots, those are joined.
-- Assumes nothing.
use mathlib.Core.Path.{sym, ◌∙◌, ◌≡◌}
use native.Mathlib.Omega.{arith}
use lib.ListN.{length}
use borrow.Author.Tests.{eqb-false, eqb-true}
use Rattle.groups.proofs.Merging.{one-root, other_root, Searched, searched}
use Rattle.groups.specs.Groups.{Root}
use Rattle.lake_notes.proofs.Turns.{met-one, met-two}
use Rattle.pairs.proofs.Pairs.{pair_climbs}
use Rattle.pairs.specs.Pairs.{greater_of, lesser_of}
use Rattle.lake_notes.proofs.meeting.join_pair.Goals as goal
use Rattle.lake_notes.proofs.meeting.join_pair.Goals.{After-find_cell-s}

-- what the two searches found: two roots, in a list of groups that is as long as there are cells
both : (c : After-find_cell-s)
    → let a = c.args in
    let h = c.find_cell-s.new.group in
    let r = c.find_cell-r.result.0 in
    let s = c.find_cell-s.result.0 in
    Searched a.group.now (lesser_of a.p) (greater_of a.w a.p) h r s × Root h r × Root h s
    × (length h ≡ length a.heights.now)
both c =
    let h = c.find_cell-s.new.group in
    let F = searched (rw c.lesser-a.ensures at c.find_cell-r.ensures) (rw c.greater-b.ensures at c.find_cell-s.ensures) in
    let long = c.find_cell-s.auto.group ∙ c.find_cell-r.auto.group ∙ c.requires.sized.group_sized in
    let rise = pair_climbs c.args.w c.args.p c.requires.w_nonzero.0 in
    (F, one-root F (omega (arith, long, c.requires.w_nonzero.3, rise)), other_root F (omega (arith, long, c.requires.w_nonzero.3)), long)

pub find_cell-r-requires : goal.find_cell-r-requires
find_cell-r-requires c = (
  rw c.lesser-a.ensures (omega (arith, c.requires.sized.group_sized, c.requires.w_nonzero.3, pair_climbs c.args.w c.args.p c.requires.w_nonzero.0)),
  c.requires.w_nonzero.4,
)

pub find_cell-s-requires : goal.find_cell-s-requires
find_cell-s-requires c = (
  rw c.greater-b.ensures (omega (arith, c.requires.sized.group_sized, c.requires.w_nonzero.3, c.find_cell-r.auto.group)),
  c.find_cell-r.ensures.1.down,
)

pub returns-then-eq : goal.returns-then-eq
returns-then-eq c = met-one (both (goal.at.returns-then-eq c).After-find_cell-s).0 (eqb-true _ _ (sym c.eq.ensures ∙ c.if-eq.true))

pub flag_meeting-requires : goal.flag_meeting-requires
flag_meeting-requires c =
    let b = both (goal.at.flag_meeting-requires c).After-find_cell-s in
    let size = c.requires.sized in
    let long = b.3 in record {
      a_in_bounds = (
        rw c.lesser-a.ensures (omega (arith, c.requires.w_nonzero.3, pair_climbs c.args.w c.args.p c.requires.w_nonzero.0)),
        rw c.greater-b.ensures c.requires.w_nonzero.3,
        size.flags_fit,
      );
      r_in_bounds = (
        omega (arith, b.1.0, long, size.lows_fit),
        omega (arith, b.2.0, long, size.lows_fit),
        rw (c.lesser-a.ensures, c.greater-b.ensures) c.height-h.ensures,
      );
    }

pub hang_roots-requires : goal.hang_roots-requires
hang_roots-requires c =
    let b = both (goal.at.hang_roots-requires c).After-find_cell-s in
    let size = c.requires.sized in
    let long = b.3 in record {
      down = (b.0.groups.down, b.1, b.2, omega (arith, long, size.lows_fit));
      group_in_bounds = (omega (arith, long, size.parents_fit), omega (arith, long, size.joins_fit));
    }

pub returns : goal.returns
returns c =
    let hung = c.hang_roots.ensures in
    let b = both (goal.at.returns c).After-find_cell-s in
    let long = b.3 in
    let rise = pair_climbs c.args.w c.args.p c.requires.w_nonzero.0 in
    met-two b.0 (eqb-false _ _ (sym c.eq.ensures ∙ c.if-eq.false))
    (omega (arith, long, c.requires.w_nonzero.3, rise)) (omega (arith, long, c.requires.w_nonzero.3)) hung.0 hung.1
    (rw (c.lesser-a.ensures, c.greater-b.ensures) at c.flag_meeting.ensures) hung.2
    (rw c.height-h.ensures at hung.3)
