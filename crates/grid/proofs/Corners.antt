-- Corners: the places around are the sides and these, and what is straight or diagonal of each.
-- Assumes nothing.
use mathlib.Core.Bool.{false, true}
use mathlib.Core.List.Memᴰ.{head as in_head}
use mathlib.Core.List.Memᴰ.{tail as in_Tail}
use mathlib.Core.Logic.{inl, inr, ◌⊎◌}
use mathlib.Core.Path.{refl, ◌≡◌}
use Prim.Native.Nat.{ℕ, ◌%◌, ◌+◌, ◌-◌, ◌<◌}
use native.Mathlib.Omega.{arith}
use Rattle.grid.proofs.Sides.{each_side, left_stands, right_stands}
use Rattle.grid.specs.Masks.{bit_of}
use Rattle.grid.specs.Neighbours.{is_corner}
use Rattle.grid.specs.Window.{around, corners, Rows, sides, Stands}
use Rattle.lists.proofs.Each.{each_member}
use Rattle.lists.specs.Lists.{◌∈◌}

-- what holds of each place
pub each_corner : (P : ℕ → Type 0) → P 0 → P 2 → P 6 → P 8 → (p : ℕ) → p ∈ corners → P p
each_corner P a b c d = each_member P corners (a, (b, (c, (d, tt))))

pub each_around : (P : ℕ → Type 0) → P 0 → P 1 → P 2 → P 3 → P 5 → P 6 → P 7 → P 8 → (p : ℕ) → p ∈ around → P p
each_around P a b c d e f g h = each_member P around (a, (b, (c, (d, (e, (f, (g, (h, tt))))))))

-- around are sides and corners
pub around_kinds : (p : ℕ) → p ∈ around → (p ∈ sides) ⊎ (p ∈ corners)
around_kinds =
    each_around (λ p. (p ∈ sides) ⊎ (p ∈ corners)) (inr (in_head refl)) (inl (in_head refl)) (inr (in_Tail (in_head refl)))
    (inl (in_Tail (in_head refl))) (inl (in_Tail (in_Tail (in_head refl)))) (inr (in_Tail (in_Tail (in_head refl))))
    (inl (in_Tail (in_Tail (in_Tail (in_head refl))))) (inr (in_Tail (in_Tail (in_Tail (in_head refl)))))

pub corner-around : (p : ℕ) → p ∈ corners → p ∈ around
corner-around =
    each_corner (λ p. p ∈ around) (in_head refl) (in_Tail (in_Tail (in_head refl)))
    (in_Tail (in_Tail (in_Tail (in_Tail (in_Tail (in_head refl))))))
    (in_Tail (in_Tail (in_Tail (in_Tail (in_Tail (in_Tail (in_Tail (in_head refl))))))))

-- a drop to a side is straight, and one to a corner diagonal
pub side_straight : (p : ℕ) → p ∈ sides → is_corner p ≡ false
side_straight = each_side (λ p. is_corner p ≡ false) refl refl refl refl

pub corner_diagonal : (p : ℕ) → p ∈ corners → is_corner p ≡ true
corner_diagonal = each_corner (λ p. is_corner p ≡ true) refl refl refl refl

-- bits are 1 to 128
pub bit_range : (p : ℕ) → p ∈ around → (0 < bit_of around p) × (bit_of around p < 256)
bit_range =
    each_around (λ p. (0 < bit_of around p) × (bit_of around p < 256)) (omega arith, omega arith) (omega arith, omega arith)
    (omega arith, omega arith) (omega arith, omega arith) (omega arith, omega arith) (omega arith, omega arith) (omega arith, omega arith)
    (omega arith, omega arith)

-- one column to the left or to the right of what stands at a place
module _ {w n c p d : ℕ} (G : Rows w n) (S : Stands w n c p d) where
  pub stands_west : 0 < p % 3 → 0 < d % w → Stands w n c (p - 1) (d - 1)
  stands_west m h =
      let a = S.row in let b = S.column in let k = S.place in
      let W = left_stands G S.on h in
      let e = W.row in let f = W.column in
      record { place = omega arith; row = omega arith; column = omega arith; on = W.on }

  pub stands_east : p % 3 < 2 → d % w + 1 < w → Stands w n c (p + 1) (d + 1)
  stands_east m h =
      let a = S.row in let b = S.column in let k = S.place in
      let E = right_stands G S.on h in
      let e = E.row in let f = E.column in
      record { place = omega arith; row = omega arith; column = omega arith; on = E.on }
