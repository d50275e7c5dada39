-- What each impostor writes over the network that the real call has drawn, and that so it keeps its contract.
-- Assumes nothing.
use mathlib.Core.Bool.{Bool, cond, false, false≢true, true, ◌&&◌}
use mathlib.Core.List.{List}
use mathlib.Core.Path.{ap, refl, subst, sym, ◌∙◌, ◌≡◌}
use Prim.Native.Nat.{ℕ, ◌*◌}
use native.Mathlib.Omega.{arith}
use lib.Dec.{eqb}
use lib.IntN.{pos, ℤ}
use lib.ListN.{length}
use borrow.Author.Tests.{eqb-true, le-leb}
use Rattle.ground.specs.Judge.{Accepted, judge, judge_cells, judge_lists, judge_marks, judge_outlet, Judged, must}
use Rattle.lists.proofs.Filled.{filled_none, filled-onto}
use Rattle.lists.proofs.Tests.{and_left, and_right}
use Rattle.lists.specs.Lists.{filled, overwrite, tab}
use Rattle.network.proofs.AcceptedCalls.{call_accepted, call_cells, call_full}
use Rattle.network.specs.Call.{network_holds, Outcome}
use Rattle.network_impostors.proofs.Drawn.{drawn_holds}
use Rattle.network_impostors.proofs.Inputs.{left_accepted}
use Rattle.network_impostors.specs.Impostors.{accepted_cells, accepted_three_by_three, LeavesWrong, own_receivers, sample_dfor_all, zero_levels}
use Rattle.rules.proofs.SixLists.{onto_again}
use Rattle.rules.specs.Ground.{cells_of, Ground}
use Rattle.rules.specs.Network.{network, Network}
use Rattle.rules.specs.Samples.{D_right, ground_d, network_d}
use Rattle.rules.specs.SixLists.{Full, Holds, onto, shortest, six_lists}
use Rattle.grid.specs.declared.Neighbours.TheVariants.{Four}
use Rattle.ground.specs.declared.Refusal.TheVariants.{NoRoom}
use Rattle.rules.specs.declared.Manner.TheVariants.{Carve}
use Rattle.std.specs.Prelude.{Err, Ok}

module _ {A : Type 0} {x l : List A} (f : ℕ → A) where
  -- n entries that are filled where n stood before, and none where all is as it was
  refilled : (n k : ℕ) (mid old : List A) → length mid ≡ n → k ≡ n → l ≡ overwrite mid old → x ≡ filled f k l → x ≡ overwrite (tab n f) old
  unfolding filled
  refilled n k mid old e z a b = b ∙ rw (z, a) (filled-onto f n mid old e)

  unfilled : (k : ℕ) (old : List A) → k ≡ 0 → l ≡ old → x ≡ filled f k l → x ≡ old
  unfilled k old z a b = b ∙ rw (z, a) (filled_none f old)

module _ (g : Ground) (before : Network ℤ) {drawn : Network ℤ} where
  -- their own numbers over the receivers
  pub own_receivers-left : (r : Judged) {k : ℕ} {l : List ℕ} → Outcome g before r drawn → k ≡ accepted_cells r
      → l ≡ filled (λ c. c) k drawn.receivers
      → LeavesWrong own_receivers g before r (six_lists l drawn.basins drawn.order drawn.levels drawn.drainage drawn.wet)
  own_receivers-left (Ok size) {k} o z a =
      let d = o.lists in
      let e =
      refilled (λ c. c) (cells_of g) k (network g).receivers before.receivers
      (call_full Four Carve g before o).receivers_full (z ∙ call_cells Four Carve g before o)
      (ap (λ (s : Network ℤ). s.receivers) d) a in
      record { answer = o.answer; lists = λ i. six_lists (e i) (d i).basins (d i).order (d i).levels (d i).drainage (d i).wet }
  own_receivers-left (Err why) {k} o z a =
      let d = o.lists in
      let e = unfilled (λ c. c) k before.receivers z (ap (λ (s : Network ℤ). s.receivers) d) a in
      record { answer = o.answer; lists = λ i. six_lists (e i) (d i).basins (d i).order (d i).levels (d i).drainage (d i).wet }

  -- zeros over the levels and the drainage
  pub zero_levels_left : (r : Judged) {k : ℕ} {l : List ℤ} {m : List ℕ} → Outcome g before r drawn → k ≡ accepted_cells r
      → l ≡ filled (λ _. pos 0) k drawn.levels → m ≡ filled (λ _. 0) k drawn.drainage
      → LeavesWrong zero_levels g before r (six_lists drawn.receivers drawn.basins drawn.order l m drawn.wet)
  zero_levels_left (Ok size) {k} o z a b =
      let d = o.lists in
      let e =
      refilled (λ _. pos 0) (cells_of g) k (network g).levels before.levels
      (call_full Four Carve g before o).levels_full (z ∙ call_cells Four Carve g before o)
      (ap (λ (s : Network ℤ). s.levels) d) a in
      let f =
      refilled (λ _. 0) (cells_of g) k (network g).drainage before.drainage
      (call_full Four Carve g before o).drainage_full (z ∙ call_cells Four Carve g before o)
      (ap (λ (s : Network ℤ). s.drainage) d) b in
      record { answer = o.answer; lists = λ i. six_lists (d i).receivers (d i).basins (d i).order (e i) (f i) (d i).wet }
  zero_levels_left (Err why) {k} o z a b =
      let d = o.lists in
      let e = unfilled (λ _. pos 0) k before.levels z (ap (λ (s : Network ℤ). s.levels) d) a in
      let f = unfilled (λ _. 0) k before.drainage z (ap (λ (s : Network ℤ). s.drainage) d) b in
      record { answer = o.answer; lists = λ i. six_lists (d i).receivers (d i).basins (d i).order (e i) (f i) (d i).wet }

-- the ground of sample D is accepted where there is room, and its network is drawn
D_accepted : {before : Network ℤ} → Holds 9 before → judge_lists (network_holds before) ground_d ≡ Accepted 3 3
unfolding judge_lists judge judge_cells judge_marks judge_outlet
D_accepted {before} H = ap (λ (b : Bool). must b NoRoom (Accepted 3 3)) (le-leb 9 (shortest before) (omega arith))

pub D_drawn : {before : Network ℤ} {r : Judged} {after : Network ℤ} → Holds 9 before → Outcome ground_d before r after → after ≡ onto network_d before
D_drawn {before} H o =
    o.lists
    ∙ left_accepted (network ground_d) before (D_accepted H) o.answer
    ∙ ap (λ (net : Network ℤ). onto net before) D_right

D_full : Full 9 network_d
D_full =
    record { receivers_full = refl; basins_full = refl; order_full = refl; levels_full = refl; drainage_full = refl; wet_full = refl }

nine : (w h : ℕ) → (eqb w 3 && eqb h 3) ≡ true → h * w ≡ 9
nine w h t = rw (eqb-true w 3 (and_left (eqb w 3) (eqb h 3) t), eqb-true h 3 (and_right (eqb w 3) (eqb h 3) t))

-- which of the two networks is left, by the test of the ground's size
abbrev onto_either : Ground → (before : Network ℤ) → Bool → Network ℤ
onto_either g before b = onto (cond b network_d (network g)) before

module _ (g : Ground) (before : Network ℤ) {drawn : Network ℤ} where
  pub nine_hold : (r : Judged) → Outcome g before r drawn → accepted_three_by_three r ≡ true → Holds 9 drawn
  nine_hold (Ok size) o t = subst (λ (n : ℕ). Holds n drawn) (nine size.width size.height t) (drawn_holds g before (Ok size) o)
  nine_hold (Err why) o t = absurd (false≢true t)

  test-is : {w h : ℕ} → Outcome g before (Accepted w h) drawn → (eqb w 3 && eqb h 3) ≡ (eqb g.width 3 && eqb g.height 3)
  test-is o = rw ((call_accepted Four Carve g before o).width_is, (call_accepted Four Carve g before o).height_is)

  -- nothing over the network of any other tile, and sample D's over that of a 3 by 3 tile
  pub other_left : (r : Judged) → Outcome g before r drawn → accepted_three_by_three r ≡ false → LeavesWrong sample_dfor_all g before r drawn
  other_left (Ok size) o t = record { answer = o.answer; lists = o.lists ∙ ap (onto_either g before) (sym t ∙ test-is o) }
  other_left (Err why) o t = record { answer = o.answer; lists = o.lists }

  pub sample_d-left : (r : Judged) {after : Network ℤ} → Outcome g before r drawn → accepted_three_by_three r ≡ true → after ≡ onto network_d drawn
      → LeavesWrong sample_dfor_all g before r after
  sample_d-left (Ok size) o t a =
      let F : Full 9 (network g) =
      subst (λ (n : ℕ). Full n (network g)) (sym (call_cells Four Carve g before o) ∙ nine size.width size.height t) (call_full Four Carve g before o) in
      record {
        answer = o.answer;
        lists = a ∙ ap (onto network_d) o.lists ∙ onto_again 9 network_d (network g) before D_full F ∙ ap (onto_either g before) (sym t ∙ test-is o);
      }
  sample_d-left (Err why) o t a = absurd (false≢true t)
