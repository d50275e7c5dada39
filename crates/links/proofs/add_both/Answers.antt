-- `links::add_both` meets its contract: a pass each way, and there is room for what both add.
-- Assumes nothing.
use Prim.Native.Nat.{ℕ}
use borrow.Author.Rules.{rules}
use Rattle.links.proofs.Added.{added_both_lem, fits_first, fits_second}
use Rattle.links.specs.Leads.{added_to}
use Rattle.links.proofs.add_both.Goals as goal
use Rattle.links.proofs.add_both.Goals.{Start}

-- what the neighbours before add, and those after
abbrev before-add : Start → ℕ → ℕ
before-add st = let a = st.args in added_to 0 a.step a.n a.weights.now a.on a.back

abbrev after-add : Start → ℕ → ℕ
after-add st = let a = st.args in added_to a.step 0 a.n a.weights.now a.back a.on

pub add-requires : goal.add-requires
add-requires c =
    let fits = fits_first (before-add (goal.at.add-requires c).Start) (after-add (goal.at.add-requires c).Start) c.args.links.now c.requires.fits in
    record {
      after_bound = (search rules, search rules);
      n_in_bounds = (search rules, search rules, search rules);
      fits = fits;
    }

pub add-requires-2 : goal.add-requires-2
add-requires-2 c =
    let fits = fits_second (before-add (goal.at.add-requires-2 c).Start) (after-add (goal.at.add-requires-2 c).Start) c.requires.fits c.add.ensures in
    record {
      after_bound = (search rules, search rules);
      n_in_bounds = (search rules, search rules, search rules);
      fits = fits;
    }

pub returns : goal.returns
returns c =
    added_both_lem (before-add (goal.at.returns c).Start) (after-add (goal.at.returns c).Start) c.add.ensures c.add-2.ensures
