-- How many neighbours a cell has: at most one for each place of the rule. Two, three or four share a side with it, and at most two on a tile
-- one cell wide or one cell high.
-- Assumes nothing.
use mathlib.Core.Bool.{Bool, false, true}
use mathlib.Core.List.{[], List, ◌++◌}
use mathlib.Core.Logic.{inl, inr, ◌⊎◌}
use mathlib.Core.Path.{ap, refl, subst, sym, ◌∙◌, ◌≡◌}
use Prim.Native.Nat.{ℕ, ◌%◌, ◌*◌, ◌+◌, ◌<◌, ◌≤◌}
use native.Mathlib.Nat.{mod-lt}
use native.Mathlib.Omega.{arith}
use lib.ListN.{length, length-append}
use Rattle.grid.proofs.AtPlaces.{joined_at, joined-places, neighbours-places, one}
use Rattle.grid.proofs.Rules.{sides_rule}
use Rattle.grid.proofs.Sides.{above_stands, below_stands, left_stands, right_stands, stands_above, stands_below, stands_left, stands_right}
use Rattle.grid.proofs.Window.{on_stands, stands_on}
use Rattle.grid.specs.Masks.{joins_at}
use Rattle.grid.specs.Window.{beside, cell_at, IsRule, on_tile, Rows, sides, Stands}
use Rattle.lists.proofs.Flat.{flat_few}
use Rattle.lists.proofs.Tests.{lt_or_ge}
use Rattle.lists.specs.Lists.{keep, upto}

one_few : (t : Bool) (x : ℕ) → length (one t x) ≤ 1
one_few true x = omega arith
one_few false x = omega arith

one-there : (t : Bool) (x : ℕ) → t ≡ true → length (one t x) ≡ 1
one-there t x e = rw e

one_none : (t : Bool) (x : ℕ) → (t ≡ true → ⊥) → length (one t x) ≡ 0
one_none true x z = absurd (z refl)
one_none false x z = refl

-- a relation between neighbours joins a cell to at most one at each place
pub joined_few : (places : List ℕ) (w n : ℕ) (E : ℕ → ℕ → Bool) (c : ℕ) → IsRule places → Rows w n → c < n
    → ((x : ℕ) → x < n → E c x ≡ true → beside places w c x ≡ true) → length (keep (E c) (upto n)) ≤ length places
joined_few places w n E c R G on only =
    subst (λ (l : List ℕ). length l ≤ length places) (sym (joined-places w n E c G R on only))
    (flat_few (joined_at w n E c) places (λ p. one_few (joins_at w n E c p) (cell_at w c p)))

module _ (w n c : ℕ) (G : Rows w n) (on : c < n) where
  -- 1 where the tile has a cell at place p of the window around c, otherwise 0
  abbrev there : ℕ → ℕ
  there p = length (one (on_tile w n c p) (cell_at w c p))

  there_if : {p d : ℕ} → Stands w n c p d → there p ≡ 1
  there_if {p} S = one-there (on_tile w n c p) (cell_at w c p) (stands_on S G)

  there-none : (p : ℕ) → p < 9 → (Stands w n c p (cell_at w c p) → ⊥) → there p ≡ 0
  there-none p h z = one_none (on_tile w n c p) (cell_at w c p) (λ t. z (on_stands w n c p h G.wide t))

  -- the neighbours that share a side, side by side
  sides-length : length (keep (beside sides w c) (upto n)) ≡ there 1 + (there 3 + (there 5 + there 7))
  sides-length =
      let at_place : ℕ → List ℕ = λ p. one (on_tile w n c p) (cell_at w c p) in
      let a = length-append (at_place 1) (at_place 3 ++ (at_place 5 ++ (at_place 7 ++ []))) in
      let b = length-append (at_place 3) (at_place 5 ++ (at_place 7 ++ [])) in
      let d = length-append (at_place 5) (at_place 7 ++ []) in
      let e = length-append (at_place 7) [] in
      ap length (neighbours-places sides w n c sides_rule G on) ∙ omega arith

  -- of two rows or more a cell has one above it or below it, of two columns or more one to its left or right
  pub sides-least : 2 ≤ w → 2 * w ≤ n → 2 ≤ length (keep (beside sides w c) (upto n))
  sides-least wide tall =
      let e = sides-length in
      let a : 1 ≤ there 1 + there 7 = up_down (lt_or_ge c w) in
      let b : 1 ≤ there 3 + there 5 = left-right (lt_or_ge 0 (c % w)) in
      omega arith
    where
      up_down : (c < w) ⊎ (w ≤ c) → 1 ≤ there 1 + there 7
      up_down (inl h) = let e = there_if (below_stands G on (omega arith)) in omega arith
      up_down (inr h) = let e = there_if (above_stands G on h) in omega arith

      left-right : (0 < c % w) ⊎ (c % w ≤ 0) → 1 ≤ there 3 + there 5
      left-right (inl h) = let e = there_if (left_stands G on h) in omega arith
      left-right (inr h) = let e = there_if (right_stands G on (omega arith)) in omega arith

  -- one column: none to the left or right
  pub sides_narrow : w ≡ 1 → length (keep (beside sides w c) (upto n)) ≤ 2
  sides_narrow e =
      let l = sides-length in
      let m = mod-lt c G.wide in
      let a : there 3 ≡ 0 = there-none 3 (omega arith) (λ S. let k = (stands_left G on S).1 in omega arith) in
      let b : there 5 ≡ 0 = there-none 5 (omega arith) (λ S. let k = (stands_right G on S).1 in omega arith) in
      let f = one_few (on_tile w n c 1) (cell_at w c 1) in
      let g = one_few (on_tile w n c 7) (cell_at w c 7) in
      omega arith

  -- one row: none above or below
  pub sides-low : n ≡ w → length (keep (beside sides w c) (upto n)) ≤ 2
  sides-low e =
      let l = sides-length in
      let a : there 1 ≡ 0 = there-none 1 (omega arith) (λ S. let k = stands_above G on S in omega arith) in
      let b : there 7 ≡ 0 = there-none 7 (omega arith) (λ S. let k = (stands_below G on S).1 in omega arith) in
      let f = one_few (on_tile w n c 3) (cell_at w c 3) in
      let g = one_few (on_tile w n c 5) (cell_at w c 5) in
      omega arith
