-- `links::add_corners` meets its contract: both ways by one diagonal, then by the other, and there is room for what both add.
-- Assumes nothing.
use Prim.Native.Nat.{ℕ, ◌+◌, ◌-◌}
use borrow.Author.Rules.{rules}
use Rattle.links.proofs.Added.{added_both_lem, fits_first, fits_second}
use Rattle.links.specs.Leads.{added_both}
use Rattle.links.proofs.add_corners.Goals as goal
use Rattle.links.proofs.add_corners.Goals.{Start}

-- what the one diagonal adds, and the other
abbrev one : Start → ℕ → ℕ
one st = let a = st.args in added_both (a.w - 1) a.n a.weights.now 4 32

abbrev other : Start → ℕ → ℕ
other st = let a = st.args in added_both (a.w + 1) a.n a.weights.now 1 128

pub add_both-requires : goal.add_both-requires
add_both-requires c =
    let fits = fits_first (one (goal.at.add_both-requires c).Start) (other (goal.at.add_both-requires c).Start) c.args.links.now c.requires.fits in
    record {
      step_bound = (search rules, search rules, search rules, search rules);
      fits = fits;
    }

pub add_both-requires-2 : goal.add_both-requires-2
add_both-requires-2 c =
    let fits = fits_second (one (goal.at.add_both-requires-2 c).Start) (other (goal.at.add_both-requires-2 c).Start) c.requires.fits c.add_both.ensures in
    record {
      step_bound = (search rules, search rules, search rules, search rules);
      fits = fits;
    }

pub returns : goal.returns
returns c =
    added_both_lem (one (goal.at.returns c).Start) (other (goal.at.returns c).Start) c.add_both.ensures c.add_both-2.ensures
