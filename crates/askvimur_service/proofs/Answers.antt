-- What the C call that lists lakes answers, as include/askvimur_service.h says: the number of lakes, 0 to 4,096, or at least 65,536 for a
-- refusal; so no answer says both.
-- Assumes nothing.
use mathlib.Core.List.{List}
use mathlib.Core.Path.{ap, refl, ◌≡◌}
use Prim.Native.Nat.{ℕ, ◌<◌, ◌≤◌}
use native.Mathlib.Omega.{arith}
use lib.ListN.{length}
use Rattle.askvimur_service.specs.LakesCall.{lakes_answer_to, lakes_judgement, lakes_room}
use Rattle.ground.proofs.Acceptance.{good_few, record_accepted}
use Rattle.ground.proofs.Numbers.{refusal_number_lem}
use Rattle.ground.specs.Judge.{Judged, judge_record, refusal_number}
use Rattle.ground.specs.Record.{ground_of_record}
use Rattle.ground.specs.Rooms.{any_room}
use Rattle.lake_calls.proofs.Answers.{answer_listed}
use Rattle.lake_calls.specs.LakeCall.{judge_lakes, LakesAnswer, lakes_number}
use Rattle.lake_list.specs.Rows.{found_of}
use Rattle.lake_stages.proofs.FoundLakes.{lakes_on_few}
use Rattle.lake_stages.proofs.ReadLakes.{found_count}
use Rattle.lake_stages.specs.LakesOn.{lakes_on, too_deep_on}
use Rattle.rules.specs.Ground.{Ground}
use Rattle.std.specs.Prelude.{Err, Ok}
use Rattle.lake_calls.specs.declared.LakesRefusal.TheVariants.{Ground as Refused, TooDeep}

-- a refusal is answered with at least 65,536
pub refused_answer : (j : LakesAnswer) → 0 < lakes_number j → 65536 ≤ lakes_answer_to j
refused_answer (Ok n) h = absurd (omega arith)
refused_answer (Err (Refused why)) h = omega (arith, refusal_number_lem why)
refused_answer (Err (TooDeep c)) h = omega arith

module _ (ground room : List ℕ) where
  abbrev g : Ground
  g = ground_of_record ground

  -- a tile has at most 4,096 lakes
  pub listed_answer : {n : ℕ} → lakes_judgement ground room ≡ Ok n → n ≤ 4096
  listed_answer {n} e = go (judge_record any_room ground) refl e
    where
      go : (j : Judged) → judge_record any_room ground ≡ j → judge_lakes j (ground_of_record ground) (lakes_room room) ≡ Ok n → n ≤ 4096
      go (Err why) e q = let z : refusal_number why ≡ 0 = ap lakes_number q in absurd (omega (arith, refusal_number_lem why))
      go (Ok size) e q =
          let G = (record_accepted any_room ground e).good in
          let found = (answer_listed (found_of (too_deep_on g) (lakes_on g)) (lakes_room room) n q).0 in
          let count : length (lakes_on g) ≡ n = (found_count (too_deep_on g) (lakes_on g) found).1 in
          omega (arith, lakes_on_few g G, good_few g G)

-- so no answer says both, of whatever two calls
pub never_meet : (ground room ground' room' : List ℕ) {n : ℕ} → lakes_judgement ground room ≡ Ok n
    → 0 < lakes_number (lakes_judgement ground' room') → lakes_answer_to (lakes_judgement ground room) < lakes_answer_to (lakes_judgement ground' room')
never_meet ground room ground' room' {n} a r =
    let h : n ≤ 4096 = listed_answer ground room a in
    let e : lakes_answer_to (lakes_judgement ground room) ≡ n = ap lakes_answer_to a in
    let k = refused_answer (lakes_judgement ground' room') r in
    omega arith
