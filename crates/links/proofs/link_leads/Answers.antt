-- `links::link_leads` meets its contract: a cell's own weight and what all passes add are the mask of its links, which fits into a byte,
-- and so does each sum on the way. With four neighbours the passes for the corners are left out: they would add nothing.
-- Assumes nothing.
use mathlib.Core.List.{List}
use mathlib.Core.Path.{subst, ◌≡◌}
use Prim.Native.Nat.{ℕ, ◌+◌}
use borrow.Author.Rules.{rules}
use Rattle.grid.specs.Masks.{joined, mask_of}
use Rattle.grid.specs.Window.{around}
use Rattle.links.proofs.Added.{added_both_lem, fits_first, fits_second}
use Rattle.links.proofs.AllPasses.{all-passes, own_fits}
use Rattle.links.proofs.NoCorners.{no_corners}
use Rattle.links.specs.Leads.{Added, added_both, added_corners, Fits, Leading}
use Rattle.lists.specs.Lists.{filled}
use Rattle.grid.specs.declared.Neighbours.{Neighbours}
use Rattle.links.proofs.link_leads.Goals as goal
use Rattle.links.proofs.link_leads.Goals.{After-add_both, After-add_both-2, After-own_weights, Start}

-- what is added in the rows, in the columns, at the corners, and after the rows
abbrev in_rows : Start → ℕ → ℕ
in_rows st = let a = st.args in added_both 1 a.n a.weights.now 8 16

abbrev in-columns : Start → ℕ → ℕ
in-columns st = let a = st.args in added_both a.w a.n a.weights.now 2 64

abbrev at-corners : Start → ℕ → ℕ
at-corners st = let a = st.args in added_corners a.w a.n a.weights.now

abbrev after-rows : Start → ℕ → ℕ
after-rows st i = in-columns st i + at-corners st i

own_room : (own : After-own_weights)
    → Fits (λ i. in_rows (goal.at.After-own_weights own).Start i + after-rows (goal.at.After-own_weights own).Start i) own.args.n own.own_weights.new.links
own_room own =
    own_fits own.requires.0.1 own.args.links.now own.own_weights.new.links own.own_weights.ensures

rows_room : (rows : After-add_both) → Fits (after-rows (goal.at.After-add_both rows).Start) rows.args.n rows.add_both.new.links
rows_room rows =
    fits_second (in_rows (goal.at.After-add_both rows).Start) (after-rows (goal.at.After-add_both rows).Start)
    (own_room (goal.at.After-add_both rows).After-own_weights) rows.add_both.ensures

-- what is there once the corners are added, too
all-linked : {new : List ℕ} (columns : After-add_both-2) → let a = columns.args in
    (f : ℕ → ℕ) → Leading a.neighbours a.w a.n f a.weights.now → Added (at-corners (goal.at.After-add_both-2 columns).Start) columns.add_both-2.new.links new
    → new ≡ filled (mask_of around a.w a.n (joined f)) a.n a.links.now
all-linked {new} columns f K A =
    all-passes K columns.args.links.now columns.own_weights.new.links new columns.requires.1 columns.own_weights.ensures
    (added_both_lem (in_rows (goal.at.After-add_both-2 columns).Start) (after-rows (goal.at.After-add_both-2 columns).Start) columns.add_both.ensures
    (added_both_lem (in-columns (goal.at.After-add_both-2 columns).Start) (at-corners (goal.at.After-add_both-2 columns).Start) columns.add_both-2.ensures A))

pub add_both-requires : goal.add_both-requires
add_both-requires c =
    let at-place = (goal.at.add_both-requires c).Start in
    let fits = fits_first (in_rows at-place) (after-rows at-place) c.own_weights.new.links (own_room (goal.at.add_both-requires c).After-own_weights) in
    record {
      step_bound = (search rules, search rules, search rules, search rules);
      fits = fits;
    }

pub add_both-requires-2 : goal.add_both-requires-2
add_both-requires-2 c =
    let at-place = (goal.at.add_both-requires-2 c).Start in
    let fits = fits_first (in-columns at-place) (at-corners at-place) c.add_both.new.links (rows_room (goal.at.add_both-requires-2 c).After-add_both) in
    record {
      step_bound = (search rules, search rules, search rules, search rules);
      fits = fits;
    }

pub add_corners-requires : goal.add_corners-requires
add_corners-requires c =
    let at-place = (goal.at.add_corners-requires c).Start in
    let fits = fits_second (in-columns at-place) (at-corners at-place) (rows_room (goal.at.add_corners-requires c).After-add_both) c.add_both-2.ensures in
    record {
      w_nonzero = (search rules, search rules, search rules, search rules, search rules);
      fits = fits;
    }

pub returns-in-Four : goal.returns-in-Four
returns-in-Four c =
    let a = c.args in
    λ f K. all-linked (goal.at.returns-in-Four c).After-add_both-2 f K
    (no_corners (subst (λ (N : Neighbours). Leading N a.w a.n f a.weights.now) c.in-Four.is K)
    c.add_both-2.new.links)

pub returns-in-Eight : goal.returns-in-Eight
returns-in-Eight c =
    λ f K. all-linked (goal.at.returns-in-Eight c).After-add_both-2 f K c.add_corners.ensures
