-- Offers, as the code makes them: a place is written past the queue's tail, and the tail moves by 1 or by 0. Offers one after the other.
-- Assumes nothing.
use mathlib.Core.Bool.{cond, ◌&&◌}
use mathlib.Core.List.{[], append-nil, List, ◌++◌, ◌∷◌}
use mathlib.Core.Logic.{inl, inr, ◌⊎◌}
use mathlib.Core.Path.{ap, refl, ◌∙◌, ◌≡◌}
use Prim.Native.Nat.{ℕ, ◌%◌, ◌+◌, ◌-◌, ◌<◌, ◌≤◌}
use native.Mathlib.Omega.{arith}
use lib.Dec.{eqb}
use lib.ListN.{length, set, take}
use lib.Seq.{set-get_or}
use borrow.Author.Tests.{ne_eqb}
use Rattle.lists.proofs.Packs.{packs_take}
use Rattle.lists.proofs.Tests.{eq_or_ne, is, isnt, Known, known}
use Rattle.lists.specs.Lists.{at}
use Rattle.spread.specs.Steps.{none}
use Rattle.spread.specs.Wave.{bit_at, both_offered, entered, offered, offers, place_at, RoomPast, wave, Wave}

-- the place is written, counted or not, and the tail moves
module _ (counts queue : List ℕ) (tail place bit v : ℕ) where
  moved : (takes : ℕ) → takes ≤ 1 → tail < length queue
      → wave (set counts place (cond (eqb takes 1) v (at counts place))) (set queue tail place) (tail + takes)
      ≡ cond (eqb takes 1) (entered v place (wave counts queue tail)) (wave counts queue tail)
  moved takes h fits = go (eq_or_ne takes 1)
    where
      written : take (tail + takes) (set queue tail place) ≡ take tail queue ++ cond (eqb takes 1) (place ∷ []) []
      written = packs_take queue (take tail queue) tail place takes refl fits h

      go : (takes ≡ 1) ⊎ (takes ≡ 1 → ⊥)
          → wave (set counts place (cond (eqb takes 1) v (at counts place))) (set queue tail place) (tail + takes)
          ≡ cond (eqb takes 1) (entered v place (wave counts queue tail)) (wave counts queue tail)
      go (inl e) =
          let w : take (tail + 1) (set queue tail place) ≡ take tail queue ++ (place ∷ []) = rw e at written in
          rw e (λ i. record { counts = set counts place v; queue = w i; tail = tail + 1 })
      go (inr z) =
          let q = ne_eqb takes 1 z in
          let w : take (tail + takes) (set queue tail place) ≡ take tail queue = written ∙ rw (q, append-nil) in
          let t : tail + takes ≡ tail = omega (arith, z) in
          rw q (λ i. record { counts = set-get_or counts place 0 i; queue = w i; tail = t i })

  pub offer_made : (takes new : ℕ) → bit ≤ 1 → tail < length queue → takes ≡ cond (eqb (at counts place) none) bit 0
      → new ≡ cond (eqb takes 1) v (at counts place)
      → wave (set counts place new) (set queue tail place) (tail + takes) ≡ offered bit v place (wave counts queue tail)
  unfolding offered
  offer_made takes new h fits t e = rw e (moved takes small fits ∙ rw t (go (known (eqb (at counts place) none)) (eq_or_ne bit 1)))
    where
      small : takes ≤ 1
      small = rw t (few (known (eqb (at counts place) none)))
        where
          few : Known (eqb (at counts place) none) → cond (eqb (at counts place) none) bit 0 ≤ 1
          few (is k) = rw k h
          few (isnt k) = rw k (omega arith)

      s : Wave
      s = wave counts queue tail

      go : Known (eqb (at counts place) none) → (bit ≡ 1) ⊎ (bit ≡ 1 → ⊥)
          → cond (eqb (cond (eqb (at counts place) none) bit 0) 1) (entered v place s) s
          ≡ cond (eqb bit 1 && eqb (at counts place) none) (entered v place s) s
      go (is k) (inl b) = rw (k, b)
      go (is k) (inr z) = rw (k, ne_eqb bit 1 z)
      go (isnt k) (inl b) = rw (k, b)
      go (isnt k) (inr z) = rw (k, ne_eqb bit 1 z)

-- the tail never goes back
offered_tail : (bit v i : ℕ) (s : Wave) → s.tail ≤ (offered bit v i s).tail
unfolding offered
offered_tail bit v i s = go (known (eqb bit 1 && eqb (at s.counts i) none))
  where
    go : Known (eqb bit 1 && eqb (at s.counts i) none)
        → s.tail ≤ (cond (eqb bit 1 && eqb (at s.counts i) none) (entered v i s) s).tail
    go (is t) = rw t (omega arith)
    go (isnt t) = rw t (omega arith)

pub offers_tail : (w here mask v : ℕ) (ps : List ℕ) (s : Wave) → s.tail ≤ (offers w here mask v ps s).tail
unfolding offers
offers_tail w here mask v [] s = omega arith
offers_tail w here mask v (p ∷ ps) s =
    let a = offered_tail (bit_at mask p) v (place_at w here p) s in
    let b = offers_tail w here mask v ps (offered (bit_at mask p) v (place_at w here p) s) in
    omega arith

-- two offers: there is room for the first and for the second where there is room past both
module _ (back on v here step : ℕ) (s : Wave) where
  pub both_room : (list : List ℕ) → RoomPast (both_offered back on v here step s) list → (s.tail < length list) × (s.tail < 65535)
  both_room list room =
      let a = offered_tail (back % 2) v (here - step) s in
      let b = offered_tail (on % 2) v (here + step) (offered (back % 2) v (here - step) s) in
      let r = room.0 in let l = room.1 in
      (omega arith, omega arith)

  module _ {s₁ : Wave} (e₁ : s₁ ≡ offered (back % 2) v (here - step) s) where
    pub both_made : {s₂ : Wave} → s₂ ≡ offered (on % 2) v (here + step) s₁ → s₂ ≡ both_offered back on v here step s
    both_made e₂ = e₂ ∙ ap (offered (on % 2) v (here + step)) e₁

    pub second_room : (list now : List ℕ) → length now ≡ length list → RoomPast (both_offered back on v here step s) list
        → (s₁.tail < length now) × (s₁.tail < 65535)
    second_room list now same room =
        let a = offered_tail (on % 2) v (here + step) s₁ in
        let e : (offered (on % 2) v (here + step) s₁).tail ≡ (both_offered back on v here step s).tail = ap (λ (s : Wave). s.tail) (both_made refl) in
        let r = room.0 in let l = room.1 in
        (omega arith, omega arith)
