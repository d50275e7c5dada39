-- The cell that a weight leads to, found by selects: each place has its own bit, and only the one whose bit the weight is can be taken. A
-- difference may wrap where the tile has no cell.
-- Assumes nothing.
use Rattle.std.proofs.Common.{◌≡◌, ℕ, ◌+◌, ◌-◌, ◌%◌, ◌<◌, ◌≤◌, cond, eqb, ◌⊎◌, sym, refl, ◌∙◌, inl, inr, arith, ne_eqb}
use mathlib.Core.List.Memᴰ.{head as in_head}
use mathlib.Core.List.Memᴰ.{tail as in_Tail}
use Rattle.first_receivers.specs.Weights.{beside, itself, LedToCorner, Placed}
use Rattle.grid.proofs.Corners.{around_kinds, each_corner}
use Rattle.grid.proofs.Sides.{each_side}
use Rattle.grid.proofs.Window.{stands_number}
use Rattle.grid.specs.Masks.{bit_of}
use Rattle.grid.specs.Window.{around, corners, sides, Stands}
use Rattle.lists.specs.Lists.{◌∈◌}
use Rattle.grid.specs.declared.Neighbours.TheVariants.{Eight, Four}

-- the selects of the sides and those of the corners, in their order
abbrev pub by_sides : (k c u l r d : ℕ) → ℕ
by_sides k c u l r d = cond (eqb k 64) d (cond (eqb k 16) r (cond (eqb k 8) l (cond (eqb k 2) u c)))

abbrev pub by_corners : (k side ul ur dl dr : ℕ) → ℕ
by_corners k side ul ur dl dr = cond (eqb k 128) dr (cond (eqb k 32) dl (cond (eqb k 4) ur (cond (eqb k 1) ul side)))

-- u is so much less than c, or wraps
pub record Less (c step u : ℕ) : Type 0 where
  pub small : u < 65536
  pub back : (u + step) % 65536 ≡ c

module _ (w c k u l : ℕ) (U : Less c w u) (F : Less c 1 l) where
  pub side_led : (n d p : ℕ) → n ≤ 4096 → p ∈ sides → Stands w n c p d → k ≡ bit_of around p → by_sides k c u l (c + 1) (c + w) ≡ d
  side_led n d p few m S q =
      rw q
      (each_side (λ p. Stands w n c p d → by_sides (bit_of around p) c u l (c + 1) (c + w) ≡ d)
      (λ S. let e = stands_number S in let o = S.on in omega (arith, U))
      (λ S. let e = stands_number S in let o = S.on in omega (arith, F))
      (λ S. let e = stands_number S in omega arith)
      (λ S. let e = stands_number S in omega arith)
      p m S)

  -- the weight of a pit or of an outlet
  pub none-led : k ≡ 0 → by_sides k c u l (c + 1) (c + w) ≡ c
  none-led e = rw e

module _ (w c k side ul ur : ℕ) (wide : 0 < w) (A : Less c (w + 1) ul) (B : Less c (w - 1) ur) where
  abbrev led : ℕ
  led = by_corners k side ul ur (c + (w - 1)) (c + (w + 1))

  at-corner : (n d p : ℕ) → n ≤ 4096 → p ∈ corners → Stands w n c p d → k ≡ bit_of around p → led ≡ d
  at-corner n d p few m S q =
      rw q
      (each_corner (λ p. Stands w n c p d → by_corners (bit_of around p) side ul ur (c + (w - 1)) (c + (w + 1)) ≡ d)
      (λ S. let e = stands_number S in let o = S.on in omega (arith, A))
      (λ S. let e = stands_number S in let o = S.on in omega (arith, B))
      (λ S. let e = stands_number S in omega arith)
      (λ S. let e = stands_number S in omega arith)
      p m S)

  off_corner : ((p : ℕ) → p ∈ corners → k ≡ bit_of around p → ⊥) → led ≡ side
  off_corner z =
      rw (
        ne_eqb k 1 (z 0 (in_head refl)),
        ne_eqb k 4 (z 2 (in_Tail (in_head refl))),
        ne_eqb k 32 (z 6 (in_Tail (in_Tail (in_head refl)))),
        ne_eqb k 128 (z 8 (in_Tail (in_Tail (in_Tail (in_head refl))))),
      )

  pub corners-led : LedToCorner w c k side led
  corners-led = record { corner = at-corner; no_corner = off_corner }

-- the bit of a side is no corner's
side_no_corner : (k p : ℕ) → p ∈ sides → k ≡ bit_of around p → (q : ℕ) → q ∈ corners → k ≡ bit_of around q → ⊥
side_no_corner k p m e =
    each_side (λ p. k ≡ bit_of around p → (q : ℕ) → q ∈ corners → k ≡ bit_of around q → ⊥)
    (λ e. each_corner (λ q. k ≡ bit_of around q → ⊥) (λ f. omega arith) (λ f. omega arith) (λ f. omega arith) (λ f. omega arith))
    (λ e. each_corner (λ q. k ≡ bit_of around q → ⊥) (λ f. omega arith) (λ f. omega arith) (λ f. omega arith) (λ f. omega arith))
    (λ e. each_corner (λ q. k ≡ bit_of around q → ⊥) (λ f. omega arith) (λ f. omega arith) (λ f. omega arith) (λ f. omega arith))
    (λ e. each_corner (λ q. k ≡ bit_of around q → ⊥) (λ f. omega arith) (λ f. omega arith) (λ f. omega arith) (λ f. omega arith))
    p m e

module _ (w c k u l : ℕ) (U : Less c w u) (F : Less c 1 l) where
  -- with four neighbours
  pub four_led : (n d : ℕ) → n ≤ 4096 → Placed Four w n c d k → by_sides k c u l (c + 1) (c + w) ≡ d
  four_led n d few (itself e q) = none-led w c k u l U F q ∙ sym e
  four_led n d few (beside {p = p} m S q) = side_led w c k u l U F n d p few m S q

  -- with eight, once the corners are looked at
  pub eight_led : {r : ℕ} → LedToCorner w c k (by_sides k c u l (c + 1) (c + w)) r → (n d : ℕ) → n ≤ 4096 → Placed Eight w n c d k → r ≡ d
  eight_led C n d few (itself e q) =
      C.no_corner (each_corner (λ p. k ≡ bit_of around p → ⊥) (λ z. omega arith) (λ z. omega arith) (λ z. omega arith) (λ z. omega arith))
      ∙ none-led w c k u l U F q ∙ sym e
  eight_led {r} C n d few (beside {p = p} m S q) = go (around_kinds p m)
    where
      go : (p ∈ sides) ⊎ (p ∈ corners) → r ≡ d
      go (inl i) = C.no_corner (side_no_corner k p i q) ∙ side_led w c k u l U F n d p few i S q
      go (inr i) = C.corner n d p few i S q
