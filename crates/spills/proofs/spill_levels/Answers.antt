-- `spills::spill_levels` meets its contract: what each step asks is what those before it give.
-- Assumes nothing.
use mathlib.Core.List.{List}
use mathlib.Core.Path.{ap, subst, sym, ◌∙◌}
use Prim.Native.Nat.{ℕ, ◌+◌, ◌≤◌}
use native.Mathlib.Omega.{arith}
use Rattle.lists.proofs.Filled.{filled_at}
use Rattle.spills.proofs.Labels.{greatest-at, greatest_bounded}
use Rattle.lists.specs.Lists.{at}
use Rattle.spills.proofs.Raised.{raised_by}
use Rattle.spills.proofs.Spilled.{readable}
use Rattle.spills.specs.Noting.{no_note}
use Rattle.spills.proofs.spill_levels.Goals as goal
use Rattle.spills.proofs.spill_levels.Goals.{After-most_of}

-- the labels found are no more than 4,096
most-few : (c : After-most_of) → c.most_of.result ≤ 4096
most-few c =
    subst (λ (k : ℕ). k ≤ 4096) (sym c.most_of.ensures) (greatest_bounded c.args.labels.now 4096 c.requires.0.small)

pub join_all-requires : goal.join_all-requires
join_all-requires c =
    let cleared = c.clear in
    record {
      by_index = (c.args.heights.now, c.requires.0);
      in_bounds = (
        omega (arith, cleared.auto.notes, c.requires.1),
        λ b h. ap (λ (l : List ℕ). at l b) cleared.ensures ∙ filled_at (λ k. no_note) 4097 c.args.notes.now b (omega arith),
      );
    }

pub spill_all-requires : goal.spill_all-requires
spill_all-requires c =
    let S = c.requires.0 in let m = most-few (goal.at.spill_all-requires c).After-most_of in record {
      w_nonzero = (S.wide, S.narrow, S.few, omega arith, omega (arith, c.join_all.auto.notes, c.clear.auto.notes, c.requires.1));
      by_index = readable S (c.join_all.ensures c.args.heights.now S).1;
    }

pub raise-requires : goal.raise-requires
raise-requires c =
    let S = c.requires.0 in
    let ks = c.spill_all.auto.notes in
    let kj = c.join_all.auto.notes in
    record {
      labels_len = (S.labelled, S.few);
      by_index = λ k h. omega (arith, S.small k h, ks, kj, c.clear.auto.notes, c.requires.1);
    }

pub returns : goal.returns
returns c =
    let S = c.requires.0 in let m = most-few (goal.at.returns c).After-most_of in
    let s = c.spill_all in
    raised_by s.new.notes S (c.join_all.ensures c.args.heights.now S).1 {top = c.from-top.result + 1} (omega arith)
    (λ k. let g = greatest-at c.args.labels.now k in let e = c.most_of.ensures in omega arith) s.ensures c.raise.ensures
