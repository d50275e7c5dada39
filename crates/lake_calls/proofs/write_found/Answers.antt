-- `lake_calls::write_found` meets its contract: the lists are written only where the answer lists the lakes, and then all of them.
-- Assumes nothing.
use mathlib.Core.List.{List}
use mathlib.Core.Path.{ap, sym, ◌∙◌, ◌≡◌}
use Prim.Native.Nat.{ℕ, ◌≤◌}
use native.Mathlib.Omega.{arith}
use Rattle.lake_calls.proofs.Answers.{answer_listed}
use Rattle.lake_calls.specs.LakeCall.{judge_found, LakeLists, lake_lists, lakes_left, lakes_onto, shortest_lake_list}
use Rattle.lake_list.specs.Rows.{found_of}
use Rattle.lake_rules.specs.Lakes.{Lake}
use Rattle.lake_stages.proofs.ReadLakes.{lakes_found}
use Rattle.lake_stages.specs.ReadFound.{ReadFound}
use Rattle.std.proofs.lemmas.Result.{err_from_is_err_and}
use Rattle.std.specs.Prelude.{Err, Ok}
use Rattle.lake_calls.proofs.write_found.Goals as goal
use Rattle.lake_calls.proofs.write_found.Goals.{After-judge_found, In_ok-count}

-- the four lists, as they were lent
abbrev before : After-judge_found → LakeLists
before c = let a = c.args in lake_lists a.levels.now a.counts.now a.volumes.now a.leasts.now

-- the answer
judged-at : (c : After-judge_found) (deep : List (List ℕ)) (ls : List Lake) → ReadFound deep ls c.args.found c.args.rows.now
    → c.judge_found.result ≡ judge_found (found_of deep ls) (shortest_lake_list (before c))
judged-at c deep ls R =
    c.judge_found.ensures ∙ ap (judge_found c.args.found) c.shortest_length-room.ensures
    ∙ ap (λ f. judge_found f (shortest_lake_list (before c))) R.found_is

found-are : (c : In_ok-count) → (c.args.found ≡ Ok c.in_ok-count.count) × (c.in_ok-count.count ≤ c.shortest_length-room.result)
found-are c =
    answer_listed c.args.found c.shortest_length-room.result c.in_ok-count.count
    (sym c.judge_found.ensures ∙ c.in_ok-count.was)

pub write_lists-requires : goal.write_lists-requires
write_lists-requires c =
    let at-place = (goal.at.write_lists-requires c).In_ok-count in
    let room = c.shortest_length-room.ensures in
    let fits = (found-are at-place).1 in
    let K = lakes_found c.requires.2 (found-are at-place).0 in
    record {
      n_in_bounds = (omega (arith, K.held), K.fit);
      n_in_bounds_2 = (omega arith, omega arith, omega arith, omega arith);
    }

pub returns-in_err-count : goal.returns-in_err-count
returns-in_err-count c =
    let at-place = (goal.at.returns-in_err-count c).After-judge_found in
    let told = err_from_is_err_and c.from_residual.result c.from_residual.ensures.1 in
    let refused = told.1 ∙ ap Err told.2 in
    λ deep ls R. record {
      answer = refused ∙ sym c.in_err-count.was ∙ judged-at at-place deep ls R;
      lists = ap (λ r. lakes_left r ls (before at-place)) (sym refused);
    }

pub returns : goal.returns
returns c =
    let at-place = (goal.at.returns c).After-judge_found in
    λ deep ls R. record {
      answer = sym c.in_ok-count.was ∙ judged-at at-place deep ls R;
      lists = c.write_lists.ensures ∙ ap (λ (z : List Lake). lakes_onto z (before at-place))
          (lakes_found R (found-are (goal.at.returns c).In_ok-count).0).are;
    }
