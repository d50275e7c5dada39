-- The offers of a visit, pair by pair: a place of the window and its opposite. Each pair is offered what is left of all offers, and has room
-- where all of them have.
-- Assumes nothing.
use mathlib.Core.List.{[], List, ◌∷◌}
use mathlib.Core.Path.{ap, refl, subst, sym, ◌∙◌, ◌≡◌}
use Prim.Native.Nat.{ℕ, ◌%◌, ◌+◌, ◌-◌, ◌/◌, ◌<◌, ◌≤◌}
use native.Mathlib.Omega.{arith}
use lib.ListN.{length}
use Rattle.spread.proofs.Offers.{offers_tail}
use Rattle.spread.specs.Wave.{bit_at, both_offered, corners_by, offered_by, offers, place_at, RoomPast, Wave}
use Rattle.grid.specs.declared.Neighbours.{Neighbours}
use Rattle.grid.specs.declared.Neighbours.TheVariants.{Eight, Four}

-- two places of the window, one so many before the middle and one so many after it
record Pair (w here mask p q step back on : ℕ) : Type 0 where
  pub back_is : back % 2 ≡ bit_at mask p
  pub on_is : on % 2 ≡ bit_at mask q
  pub before : here - step ≡ place_at w here p
  pub after : here + step ≡ place_at w here q

module _ {w here mask p q step back on : ℕ} (P : Pair w here mask p q step back on) (v : ℕ) (ps : List ℕ) (s : Wave) where
  -- a pair is offered, and then the rest
  pair-next : {s' : Wave} → s' ≡ both_offered back on v here step s → offers w here mask v ps s' ≡ offers w here mask v (p ∷ q ∷ ps) s
  unfolding offers
  pair-next e = rw (e, P.back_is, P.on_is, P.before, P.after)

  -- where there is room past all of it there is room past the pair
  pair_room : (list now : List ℕ) → length now ≡ length list → RoomPast (offers w here mask v (p ∷ q ∷ ps) s) list
      → RoomPast (both_offered back on v here step s) now
  pair_room list now same room =
      let a = offers_tail w here mask v ps (both_offered back on v here step s) in
      let e : (offers w here mask v ps (both_offered back on v here step s)).tail ≡ (offers w here mask v (p ∷ q ∷ ps) s).tail =
      ap (λ (s : Wave). s.tail) (pair-next refl) in
      let r = room.0 in let l = room.1 in
      (omega arith, omega arith)

module _ (w here mask v : ℕ) (wide : 0 < w) (narrow : w ≤ 64) (margin : 65 ≤ here) where
  columns : Pair w here mask 1 7 w (mask / 2) (mask / 64)
  columns = record { back_is = refl; on_is = refl; before = omega arith; after = omega arith }

  rows : Pair w here mask 3 5 1 (mask / 8) (mask / 16)
  rows = record { back_is = refl; on_is = refl; before = omega arith; after = omega arith }

  rising : Pair w here mask 2 6 (w - 1) (mask / 4) (mask / 32)
  rising = record { back_is = refl; on_is = refl; before = omega arith; after = omega arith }

  falling : Pair w here mask 0 8 (w + 1) mask (mask / 128)
  falling = record { back_is = omega arith; on_is = refl; before = omega arith; after = omega arith }

  -- all offers from s, and what is left of them after one pair, and after two
  abbrev all : Neighbours → Wave → Wave
  all N s = offers w here mask v (offered_by N) s

  abbrev rest : Neighbours → Wave → Wave
  rest N s = offers w here mask v (3 ∷ 5 ∷ corners_by N) s

  abbrev last : Neighbours → Wave → Wave
  last N s = offers w here mask v (corners_by N) s

  module _ (N : Neighbours) (s : Wave) where
    pub columns_room : (list : List ℕ) → RoomPast (all N s) list
        → RoomPast (both_offered (mask / 2) (mask / 64) v here w s) list
    columns_room list = pair_room columns v (3 ∷ 5 ∷ corners_by N) s list list refl

    module _ {s₁ : Wave} (e₁ : s₁ ≡ both_offered (mask / 2) (mask / 64) v here w s) where
      rest-is : rest N s₁ ≡ all N s
      rest-is = pair-next columns v (3 ∷ 5 ∷ corners_by N) s e₁

      pub rows_room : (list now : List ℕ) → length now ≡ length list → RoomPast (all N s) list
          → RoomPast (both_offered (mask / 8) (mask / 16) v here 1 s₁) now
      rows_room list now same room =
          pair_room rows v (corners_by N) s₁ list now same (subst (λ (s : Wave). RoomPast s list) (sym rest-is) room)

      module _ {s₂ : Wave} (e₂ : s₂ ≡ both_offered (mask / 8) (mask / 16) v here 1 s₁) where
        last-is : last N s₂ ≡ all N s
        last-is = pair-next rows v (corners_by N) s₁ e₂ ∙ rest-is

        -- of four neighbours that is all
        pub four_all : N ≡ Four → s₂ ≡ all N s
        unfolding offers
        four_all four = ap (λ (N : Neighbours). last N s₂) (sym four) ∙ last-is

        module _ (eight : N ≡ Eight) where
          corners_are : offers w here mask v (2 ∷ 6 ∷ 0 ∷ 8 ∷ []) s₂ ≡ all N s
          corners_are = ap (λ (N : Neighbours). last N s₂) (sym eight) ∙ last-is

          pub rising_room : (list now : List ℕ) → length now ≡ length list → RoomPast (all N s) list
              → RoomPast (both_offered (mask / 4) (mask / 32) v here (w - 1) s₂) now
          rising_room list now same room =
              pair_room rising v (0 ∷ 8 ∷ []) s₂ list now same (subst (λ (s : Wave). RoomPast s list) (sym corners_are) room)

          module _ {s₃ : Wave} (e₃ : s₃ ≡ both_offered (mask / 4) (mask / 32) v here (w - 1) s₂) where
            two-left : offers w here mask v (0 ∷ 8 ∷ []) s₃ ≡ all N s
            two-left = pair-next rising v (0 ∷ 8 ∷ []) s₂ e₃ ∙ corners_are

            pub falling_room : (list now : List ℕ) → length now ≡ length list → RoomPast (all N s) list
                → RoomPast (both_offered mask (mask / 128) v here (w + 1) s₃) now
            falling_room list now same room =
                pair_room falling v [] s₃ list now same (subst (λ (s : Wave). RoomPast s list) (sym two-left) room)

            pub eight_all : {s₄ : Wave} → s₄ ≡ both_offered mask (mask / 128) v here (w + 1) s₃ → s₄ ≡ all N s
            unfolding offers
            eight_all e₄ = pair-next falling v [] s₃ e₄ ∙ two-left
