-- Any outcome of the record call, as a result and for C, that accepts a ground record of bytes: what the answer tells of the ground, and
-- that the six lists in the record that it leaves are the network.
-- Assumes nothing.
use mathlib.Core.List.{List}
use mathlib.Core.Path.{ap, refl, subst, sym, ◌∙◌, ◌≡◌}
use Prim.Native.Nat.{ℕ, ◌<◌}
use native.Mathlib.Omega.{arith}
use lib.IntN.{ℤ}
use Rattle.network_record.proofs.Answers.{refused_answer}
use Rattle.network_record.proofs.Told.{told-left}
use Rattle.network_record.specs.RecordCall.{CalledBy, CalledFromCBy, judgement, left_record_by, network_record_by, room_of}
use Rattle.ground.proofs.Acceptance.{record_accepted}
use Rattle.ground.proofs.Water.{accepted_water-below}
use Rattle.ground.specs.Accepted.{AcceptedRecord}
use Rattle.ground.specs.Record.{ground_of_record}
use Rattle.lists.specs.Lists.{Below, overwrite}
use Rattle.network.proofs.Networks.{good_full}
use Rattle.network_bytes.specs.ReadNetwork.{network_in}
use Rattle.rules.proofs.SixLists.{first_of_whole}
use Rattle.rules.specs.Ground.{cells_of, Ground}
use Rattle.rules.specs.Network.{Network, network_by}
use Rattle.rules.specs.SixLists.{first_of}
use Rattle.grid.specs.declared.Neighbours.{Neighbours}
use Rattle.rules.specs.declared.Manner.{Manner}
use Rattle.ground.specs.Judge.{Accepted, Judged}
use Rattle.std.specs.Prelude.{Err, Ok}

-- with the width and the height that it answers
module _ (N : Neighbours) (M : Manner) (ground lent : List ℕ) (bytes : Below 256 ground) {w h : ℕ} {after : List ℕ}
    (o : CalledBy N M ground lent (Accepted w h) after) where
  abbrev g : Ground
  g = ground_of_record ground

  pub record_call_accepted : AcceptedRecord (room_of lent) ground w h
  record_call_accepted = record_accepted (room_of lent) ground (sym o.answer)

  small : Below 65536 (ground_of_record ground).water
  small = accepted_water-below ground bytes record_call_accepted

  pub record_call_network : network_in after w h ≡ network_by N M (ground_of_record ground)
  record_call_network =
      ap (λ (s : List ℕ). network_in s w h) o.lists
      ∙ ap (λ (i : ℕ). network_in (overwrite (network_record_by N M g) lent) i h) record_call_accepted.width_is
      ∙ ap (λ (i : ℕ). network_in (overwrite (network_record_by N M g) lent) g.width i) record_call_accepted.height_is
      ∙ told-left N M g record_call_accepted.good small lent

  -- so their first N entries are, too
  pub record_call_first : first_of (cells_of (ground_of_record ground)) (network_in after w h) ≡ network_by N M (ground_of_record ground)
  record_call_first =
      ap (first_of (cells_of g)) record_call_network ∙ first_of_whole (cells_of g) (network_by N M g) (good_full N M g record_call_accepted.good)

-- the same of what the C call leaves, where its answer is a length
module _ (N : Neighbours) (M : Manner) (ground lent : List ℕ) (bytes : Below 256 ground) {answer : ℕ} {after : List ℕ}
    (o : CalledFromCBy N M ground lent answer after) (length-answered : answer < 65536) where
  -- the C call's outcome is one of the record call, which accepts
  accepts : (j : Judged) → judgement ground lent ≡ j → (w : ℕ) × (h : ℕ) × CalledBy N M ground lent (Accepted w h) after
  accepts (Ok size) e = (size.width, size.height, record { answer = sym e; lists = o.lists ∙ ap (left_record_by N M ground lent) e })
  accepts (Err why) e =
      let a = o.answer in
      let b = refused_answer ground lent e in
      absurd (omega arith)

  -- what holds of the six lists at any width and height that the record call answers holds of them at the ground's own
  pub c_call_holds : (P : Network ℤ → Type 0) → ((w h : ℕ) → CalledBy N M ground lent (Accepted w h) after → P (network_in after w h))
      → P (network_in after (ground_of_record ground).width (ground_of_record ground).height)
  c_call_holds P holds =
      let (w, h, called) = accepts (judgement ground lent) refl in
      let A = record_call_accepted N M ground lent bytes called in
      subst (λ (i : ℕ). P (network_in after i (ground_of_record ground).height)) A.width_is
      (subst (λ (i : ℕ). P (network_in after w i)) A.height_is (holds w h called))

  pub c_call_network : network_in after (ground_of_record ground).width (ground_of_record ground).height ≡ network_by N M (ground_of_record ground)
  c_call_network = c_call_holds (λ s. s ≡ network_by N M (ground_of_record ground)) (λ w h called. record_call_network N M ground lent bytes called)
