-- The cells that are taken for the places of a window. Where the tile has a cell at a place, it is that one. For a side that it has not the
-- cell itself is taken, and for such a corner a cell that is taken for a side, or the cell itself.
-- Assumes nothing.
use mathlib.Core.List.Memᴰ.{head as in_head}
use mathlib.Core.List.Memᴰ.{tail as in_Tail}
use Rattle.std.proofs.Common.{◌≡◌, ℕ, ◌+◌, ◌-◌, ◌%◌, ◌<◌, ◌≤◌, ◌⊎◌, refl, subst, inl, inr, mod-lt, arith}
use native.Mathlib.Nat.{mod-le}
use Rattle.first_receivers.specs.Weights.{taken}
use Rattle.grid.proofs.Corners.{each_around, each_corner, stands_east, stands_west}
use Rattle.grid.proofs.Sides.{each_side, left_stands, right_stands, stands_left, stands_right}
use Rattle.grid.proofs.Window.{on_stands, stands_cell, stands_on}
use Rattle.grid.specs.Window.{around, cell_or, corners, on_tile, Rows, sides, Stands}
use Rattle.lists.proofs.Tests.{is, isnt, Known, known}
use Rattle.lists.specs.Lists.{◌∈◌}

pub record Taking (w n c : ℕ) (x : ℕ → ℕ) : Type 0 where
  pub real : (p : ℕ) → p ∈ around → (d : ℕ) → Stands w n c p d → x p ≡ d
  pub side : (p : ℕ) → p ∈ sides → (x p ≡ c) ⊎ Stands w n c p (x p)
  pub corner : (p : ℕ) → p ∈ corners → (x p ≡ c) ⊎ (((q : ℕ) × (q ∈ sides) × (x p ≡ x q)) ⊎ Stands w n c p (x p))

module _ {w n c : ℕ} (G : Rows w n) (on : c < n) where
  abbrev x : ℕ → ℕ
  x = taken c (cell_or w n c 1) (cell_or w n c 3) (cell_or w n c 5) (cell_or w n c 7)

  -- a side is the cell there, or c
  pub or_cell : (p d : ℕ) → Stands w n c p d → cell_or w n c p ≡ d
  or_cell p d S = rw (stands_on S G) (stands_cell S)

  pub or_side : (p : ℕ) → p < 9 → (cell_or w n c p ≡ c) ⊎ Stands w n c p (cell_or w n c p)
  or_side p h = go (known (on_tile w n c p))
    where
      go : Known (on_tile w n c p) → (cell_or w n c p ≡ c) ⊎ Stands w n c p (cell_or w n c p)
      go (is t) = inr (rw t (on_stands w n c p h G.wide t))
      go (isnt t) = inl (rw t)

  abbrev left : ℕ
  left = cell_or w n c 3

  abbrev right : ℕ
  right = cell_or w n c 5

  -- c is no further left than the cell to its left
  left_near : (left ≡ c) ⊎ Stands w n c 3 left → left ≤ c
  left_near (inl e) = omega arith
  left_near (inr S) = let e = (stands_left G on S).0 in omega arith

  -- the corners beside the side at place v, above or below
  module _ (v : ℕ) (middle : v % 3 ≡ 1) (small : v < 9) where
    abbrev mid : ℕ
    mid = cell_or w n c v

    west_is : (d : ℕ) → Stands w n c (v - 1) d → mid - (c - left) ≡ d
    west_is d S =
        let k = S.column in
        let m = mod-lt c G.wide in
        let l = or_cell 3 (c - 1) (left_stands G on (omega arith)) in
        let e : v - 1 + 1 ≡ v = omega arith in
        let u = or_cell v (d + 1) (subst (λ (q : ℕ). Stands w n c q (d + 1)) e (stands_east G S (omega arith) (omega arith))) in
        let b = left_near (or_side 3 (omega arith)) in
        let z = mod-le c w in
        omega arith

    east_is : (d : ℕ) → Stands w n c (v + 1) d → mid + (right - c) ≡ d
    east_is d S =
        let k = S.column in
        let m = mod-lt d G.wide in
        let r = or_cell 5 (c + 1) (right_stands G on (omega arith)) in
        let e : v + 1 - 1 ≡ v = omega arith in
        let u = or_cell v (d - 1) (subst (λ (q : ℕ). Stands w n c q (d - 1)) e (stands_west G S (omega arith) (omega arith))) in
        let z = mod-le d w in
        omega arith

    -- a corner stands where both its sides do; where one is missing, it is the other
    west_taken : (mid ≡ c) ⊎ Stands w n c v mid → (left ≡ c) ⊎ Stands w n c 3 left
        → (mid - (c - left) ≡ c) ⊎ (((mid - (c - left) ≡ mid) ⊎ (mid - (c - left) ≡ left)) ⊎ Stands w n c (v - 1) (mid - (c - left)))
    west_taken (inl e) (inl f) = inl (omega arith)
    west_taken (inl e) (inr S) = let b = (stands_left G on S).0 in inr (inl (inr (omega arith)))
    west_taken (inr S) (inl f) = inr (inl (inl (omega arith)))
    west_taken (inr S) (inr F) =
        let (b, h) = stands_left G on F in
        let k = S.column in
        let W = stands_west G S (omega arith) (omega arith) in
        let e : mid - 1 ≡ mid - (c - left) = omega arith in
        inr (inr (subst (Stands w n c (v - 1)) e W))

    east_taken : (mid ≡ c) ⊎ Stands w n c v mid → (right ≡ c) ⊎ Stands w n c 5 right
        → (mid + (right - c) ≡ c) ⊎ (((mid + (right - c) ≡ mid) ⊎ (mid + (right - c) ≡ right)) ⊎ Stands w n c (v + 1) (mid + (right - c)))
    east_taken (inl e) (inl f) = inl (omega arith)
    east_taken (inl e) (inr S) = let b = (stands_right G on S).0 in inr (inl (inr (omega arith)))
    east_taken (inr S) (inl f) = inr (inl (inl (omega arith)))
    east_taken (inr S) (inr F) =
        let (b, h) = stands_right G on F in
        let k = S.column in
        let E = stands_east G S (omega arith) (omega arith) in
        let e : mid + 1 ≡ mid + (right - c) = omega arith in
        inr (inr (subst (Stands w n c (v + 1)) e E))

  -- so what is taken on a tile
  pub tile_taking : Taking w n c (taken c (cell_or w n c 1) (cell_or w n c 3) (cell_or w n c 5) (cell_or w n c 7))
  tile_taking =
      record {
        real = each_around (λ p. (d : ℕ) → Stands w n c p d → x p ≡ d)
            (west_is 1 refl (omega arith)) (or_cell 1) (east_is 1 refl (omega arith)) (or_cell 3) (or_cell 5)
            (west_is 7 refl (omega arith)) (or_cell 7) (east_is 7 refl (omega arith));
        side = each_side (λ p. (x p ≡ c) ⊎ Stands w n c p (x p))
            (or_side 1 (omega arith)) (or_side 3 (omega arith)) (or_side 5 (omega arith)) (or_side 7 (omega arith));
        corner = each_corner (λ p. (x p ≡ c) ⊎ (((q : ℕ) × (q ∈ sides) × (x p ≡ x q)) ⊎ Stands w n c p (x p)))
            (by_sides_fact 1 3 above before (west_taken 1 refl (omega arith) (or_side 1 (omega arith)) (or_side 3 (omega arith))))
            (by_sides_fact 1 5 above after (east_taken 1 refl (omega arith) (or_side 1 (omega arith)) (or_side 5 (omega arith))))
            (by_sides_fact 7 3 under before (west_taken 7 refl (omega arith) (or_side 7 (omega arith)) (or_side 3 (omega arith))))
            (by_sides_fact 7 5 under after (east_taken 7 refl (omega arith) (or_side 7 (omega arith)) (or_side 5 (omega arith))));
      }
    where
      above : 1 ∈ sides
      above = in_head refl

      before : 3 ∈ sides
      before = in_Tail (in_head refl)

      after : 5 ∈ sides
      after = in_Tail (in_Tail (in_head refl))

      under : 7 ∈ sides
      under = in_Tail (in_Tail (in_Tail (in_head refl)))

      by_sides_fact : (v z : ℕ) → v ∈ sides → z ∈ sides → {y : ℕ} {P : Type 0} → (y ≡ c) ⊎ (((y ≡ x v) ⊎ (y ≡ x z)) ⊎ P)
          → (y ≡ c) ⊎ (((q : ℕ) × (q ∈ sides) × (y ≡ x q)) ⊎ P)
      by_sides_fact v z m k (inl e) = inl e
      by_sides_fact v z m k (inr (inl (inl e))) = inr (inl (v, m, e))
      by_sides_fact v z m k (inr (inl (inr e))) = inr (inl (z, k, e))
      by_sides_fact v z m k (inr (inr S)) = inr (inr S)
