-- What the C call answers, as include/askvimur.h says: the length of the network record, 43 to 61,468, or at least 65,536; and the number,
-- the place and the length can be had back from the answer. Accepted ground records have 23 to 28,688 bytes, and 61,468 are always room
-- enough.
-- Assumes nothing.
use mathlib.Core.List.{List}
use mathlib.Core.Path.{ap, refl, sym, ◌∙◌, ◌≡◌}
use Prim.Native.Nat.{ℕ, ◌*◌, ◌+◌, ◌/◌, ◌<◌, ◌≤◌}
use native.Mathlib.Omega.{arith}
use lib.ListN.{length}
use borrow.Author.Tests.{le-leb, ne_eqb}
use Rattle.network_record.specs.RecordCall.{answer_to, judgement, network_record_by, room_of}
use Rattle.network_record.specs.ReadAnswer.{length_of, ReadBack}
use Rattle.ground.proofs.Acceptance.{accepted_length, good_few, record_accepted}
use Rattle.ground.proofs.Numbers.{refusal_number_lem}
use Rattle.ground.proofs.Places.{judge_record-place, judge_record_room}
use Rattle.ground.specs.Good.{Good}
use Rattle.ground.specs.Judge.{Accepted, Judged, number_of, place_of, refusal_number, refusal_place, Refused}
use Rattle.ground.specs.Record.{ground_of_record}
use Rattle.network.proofs.Networks.{good_full}
use Rattle.network_bytes.proofs.Laws.{length-network_record}
use Rattle.network_bytes.specs.NetworkRecord.{network_bytes}
use Rattle.rules.specs.Ground.{cells_of, Ground}
use Rattle.rules.specs.Network.{network_by}
use Rattle.grid.specs.declared.Neighbours.{Neighbours}
use Rattle.grid.specs.declared.Neighbours.TheVariants.{Four}
use Rattle.ground.specs.declared.Refusal.{Refusal}
use Rattle.rules.specs.declared.Manner.{Manner}
use Rattle.rules.specs.declared.Manner.TheVariants.{Carve}
use Rattle.std.specs.Prelude.{Err, Ok}

module _ (N : Neighbours) (M : Manner) (g : Ground) (G : Good g) where
  -- the network record of an accepted tile has 15N + 28 bytes
  pub record_length : length (network_record_by N M g) ≡ network_bytes (cells_of g)
  unfolding network_record_by
  record_length = length-network_record g.width g.height (network_by N M g) (good_full N M g G)

  -- that is 43 to 61,468
  pub record_sizes : (43 ≤ length (network_record_by N M g)) × (length (network_record_by N M g) ≤ 61468)
  record_sizes =
      let e = record_length in
      let some : G.outlet < cells_of g = G.outlet_below in
      let few : cells_of g ≤ 4096 = good_few g G in
      (omega arith, omega arith)

-- the record call's judgement of any two byte lists
module _ (ground lent : List ℕ) where
  abbrev answer : ℕ
  answer = answer_to (judgement ground lent)

  -- an accepted ground is answered with the length of its record
  pub accepted_answer : (N : Neighbours) (M : Manner) {w h : ℕ} → judgement ground lent ≡ Accepted w h
      → answer ≡ length (network_record_by N M (ground_of_record ground))
  accepted_answer N M {w} {h} e =
      let a = record_accepted (room_of lent) ground e in
      let g = ground_of_record ground in
      ap answer_to e ∙ ap (λ (n : ℕ). network_bytes (h * n)) a.width_is ∙ ap (λ (n : ℕ). network_bytes (n * g.width)) a.height_is
      ∙ sym (record_length N M g a.good)

  pub accepted_sizes : {w h : ℕ} → judgement ground lent ≡ Accepted w h → (43 ≤ answer) × (answer ≤ 61468)
  accepted_sizes e =
      let s = record_sizes Four Carve (ground_of_record ground) (record_accepted (room_of lent) ground e).good in
      let l = accepted_answer Four Carve e in
      let a = s.0 in let b = s.1 in
      (omega arith, omega arith)

  -- its own record has 23 to 28,688 bytes
  pub ground_sizes : {w h : ℕ} → judgement ground lent ≡ Accepted w h → (23 ≤ length ground) × (length ground ≤ 28688)
  ground_sizes e = accepted_length ground (record_accepted (room_of lent) ground e)

  -- a lent record of 61,468 bytes is always long enough
  pub always_room : 61468 ≤ length lent → number_of (judgement ground lent) ≡ 3 → ⊥
  always_room h = judge_record_room (room_of lent) ground (λ n few. le-leb (network_bytes n) (length lent) (omega arith))

  -- a refused ground is answered with at least 65,536
  pub refused_answer : {why : Refusal} → judgement ground lent ≡ Refused why → 65536 ≤ answer
  refused_answer {why} e =
      let a : answer ≡ refusal_number why * 65536 + refusal_place why = ap answer_to e in
      let n = (refusal_number_lem why).0 in
      omega arith

-- no length is above 61,468
short_length : (j : Judged) → ((w h : ℕ) → j ≡ Accepted w h → answer_to j ≤ 61468) → length_of j ≤ 61468
short_length (Ok size) short = short size.width size.height refl
short_length (Err why) short = omega arith

pub lengths_short : (ground lent : List ℕ) → length_of (judgement ground lent) ≤ 61468
lengths_short ground lent = short_length (judgement ground lent) (λ w h e. (accepted_sizes ground lent e).1)

-- so no answer says both, of whatever two calls
pub never_meet : (ground lent ground' lent' : List ℕ) {w h : ℕ} {why : Refusal} → judgement ground lent ≡ Accepted w h
    → judgement ground' lent' ≡ Refused why → answer_to (judgement ground lent) < answer_to (judgement ground' lent')
never_meet ground lent ground' lent' a r =
    let h = (accepted_sizes ground lent a).1 in let k = refused_answer ground' lent' r in omega arith

-- lengths and places below 65,536 can be had back from an answer, and so can numbers
read_back : (j : Judged) → ((w h : ℕ) → j ≡ Accepted w h → answer_to j < 65536) → place_of j < 65536 → ReadBack j
read_back (Ok size) small low =
    let n = size.height * size.width in
    let l : network_bytes n < 65536 = small size.width size.height refl in
    let z : network_bytes n / 65536 ≡ 0 = omega arith in
    record { number_back = z; place_back = rw z; length_back = rw z }
read_back (Err why) small low =
    let p : refusal_place why < 65536 = low in
    let n = (refusal_number_lem why).0 in
    let z : (refusal_number why * 65536 + refusal_place why) / 65536 ≡ refusal_number why = omega arith in
    let t = ne_eqb (refusal_number why) 0 (λ e. omega arith) in
    record { number_back = z; place_back = rw (z, t) (omega arith); length_back = rw (z, t) }

pub answer_read : (ground lent : List ℕ) → ReadBack (judgement ground lent)
answer_read ground lent =
    read_back (judgement ground lent) (λ w h e. let s = (accepted_sizes ground lent e).1 in omega arith)
    (let p = judge_record-place (room_of lent) ground in omega arith)
