-- `askvimur_service::write_found` meets its contract: the room is written only where the answer lists the lakes, and then with all of them.
-- Assumes nothing.
use mathlib.Core.List.{List}
use mathlib.Core.Path.{ap, refl, sym, ◌∙◌, ◌≡◌}
use Prim.Native.Nat.{ℕ, ◌≤◌}
use native.Mathlib.Omega.{arith}
use Rattle.askvimur_service.specs.LakesCall.{lakes_room, room_left}
use Rattle.lake_bytes.specs.LakeBytes.{lakes_bytes}
use Rattle.lake_calls.proofs.Answers.{answer_listed}
use Rattle.lake_calls.specs.LakeCall.{judge_found, LakesAnswer}
use Rattle.lake_list.specs.Rows.{found_of}
use Rattle.lake_rules.specs.Lakes.{Lake}
use Rattle.lake_stages.proofs.ReadLakes.{lakes_found}
use Rattle.lake_stages.specs.ReadFound.{ReadFound}
use Rattle.lists.specs.Lists.{overwrite}
use Rattle.std.proofs.lemmas.Result.{err_from_is_err_and}
use Rattle.std.specs.Prelude.{Err, Ok}
use Rattle.lake_calls.specs.declared.LakesRefusal.{LakesRefusal}
use Rattle.lake_calls.specs.declared.LakesRefusal.TheVariants.{Ground as Refused, TooDeep}
use Rattle.askvimur_service.proofs.write_found.Goals as goal
use Rattle.askvimur_service.proofs.write_found.Goals.{After-judge_found, In_ok-count}

-- the answer
judged-at : (c : After-judge_found) (deep : List (List ℕ)) (ls : List Lake) → ReadFound deep ls c.args.found c.args.rows.now
    → c.judge_found.result ≡ judge_found (found_of deep ls) (lakes_room c.args.lakes.now)
judged-at c deep ls R =
    c.judge_found.ensures ∙ ap (λ f. judge_found f (lakes_room c.args.lakes.now)) R.found_is

found-are : (c : In_ok-count)
    → (c.args.found ≡ Ok c.in_ok-count.count) × (c.in_ok-count.count ≤ lakes_room c.args.lakes.now)
found-are c =
    answer_listed c.args.found (lakes_room c.args.lakes.now) c.in_ok-count.count
    (sym c.judge_found.ensures ∙ c.in_ok-count.was)

-- a refusal leaves the room as it was
stays : (answer : LakesAnswer) {why : LakesRefusal} (ls : List Lake) (room : List ℕ) → answer ≡ Err why → room_left answer ls room ≡ room
stays (Ok n) ls room e = let z : ◌≡◌ {A = ℕ} 0 1 = cc in absurd (omega arith)
stays (Err (Refused why)) ls room e = refl
stays (Err (TooDeep c)) ls room e = refl

pub write_lakes-requires : goal.write_lakes-requires
write_lakes-requires c =
    let fits = (found-are (goal.at.write_lakes-requires c).In_ok-count).1 in
    let K = lakes_found c.requires.2 (found-are (goal.at.write_lakes-requires c).In_ok-count).0 in
    (omega (arith, K.held), omega arith, K.fit)

pub returns-in_err-count : goal.returns-in_err-count
returns-in_err-count c =
    let told = err_from_is_err_and c.from_residual.result c.from_residual.ensures.1 in
    let refused = told.1 ∙ ap Err told.2 in
    λ deep ls R. record {
      answer = refused ∙ sym c.in_err-count.was ∙ judged-at (goal.at.returns-in_err-count c).After-judge_found deep ls R;
      lists = sym (stays c.from_residual.result ls c.args.lakes.now refused);
    }

pub returns : goal.returns
returns c =
    let a = c.args in
    λ deep ls R. record {
      answer = sym c.in_ok-count.was ∙ judged-at (goal.at.returns c).After-judge_found deep ls R;
      lists = c.write_lakes.ensures ∙ ap (λ (z : List Lake). overwrite (lakes_bytes z) a.lakes.now)
          (lakes_found R (found-are (goal.at.returns c).In_ok-count).0).are;
    }
