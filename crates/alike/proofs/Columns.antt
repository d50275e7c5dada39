-- The mask of a cell's neighbours is what the three columns of its window add up to, and the cells of a row have the same columns.
-- Assumes nothing.
use mathlib.Core.Bool.{Bool, cond, false, true, ◌&&◌}
use mathlib.Core.Path.{ap, sym, ◌∙◌, ◌≡◌}
use Prim.Native.Nat.{suc, zero, ℕ, ◌%◌, ◌*◌, ◌+◌, ◌/◌, ◌<◌, ◌≤◌}
use native.Mathlib.Nat.{add-mul, div-add-mod', le-div_iff_mul-le, mod-eq_of_lt, mod-lt, mul-le-mul_right, mul-mod_left}
use native.Mathlib.Omega.{arith}
use lib.Dec.{eqb, leb, ltb}
use borrow.Author.Tests.{eq-eqb, le-leb, leb-true, lt-ltb, ltb-true}
use Rattle.alike.specs.Columns.{in_column, left_column, middle_column, right_column}
use Rattle.alike.specs.NeighbourMasks.{neighbour_mask}
use Rattle.grid.proofs.Rows.{row-after, row_column, row_fits}
use Rattle.grid.proofs.Rules.{rule_by_lem}
use Rattle.grid.proofs.Window.{beside_stands, on_stands, stands_beside, stands_place}
use Rattle.grid.specs.Masks.{joins_at, mask_of}
use Rattle.grid.specs.Neighbours.{places_by}
use Rattle.grid.specs.Window.{beside, cell_at, on_tile, Rows}
use Rattle.lists.proofs.Any.{any_holds, any_in}
use Rattle.lists.proofs.Tests.{and_both, and_left, and_right, same_leb, same_ltb, same_test}
use Rattle.lists.specs.Lists.{any}
use Rattle.grid.specs.declared.Neighbours.{Neighbours}
use Rattle.grid.specs.declared.Neighbours.TheVariants.{Eight, Four}

-- bits that are there where the tile has both the row and the column
both : (row column : Bool) (bit : ℕ) → cond column (cond row bit 0) 0 ≡ bit * cond (row && column) 1 0
both true true bit = omega arith
both true false bit = omega arith
both false true bit = omega arith
both false false bit = omega arith

-- a column with its corners
whole_column : (above below column : Bool) (upper side lower : ℕ)
    → cond column (cond above upper 0 + side + cond below lower 0) 0
    ≡ upper * cond (above && column) 1 0 + side * cond column 1 0 + lower * cond (below && column) 1 0
whole_column above below true upper side lower =
    let a = both above true upper in let b = both below true lower in omega arith
whole_column above below false upper side lower =
    let a = both above false upper in let b = both below false lower in omega arith

module _ {w n c : ℕ} (G : Rows w n) (on : c < n) where
  -- whether the tile has the three rows and the three columns of c's window
  abbrev has_row : ℕ → Bool
  has_row zero = leb w c
  has_row (suc zero) = true
  has_row (suc (suc r)) = ltb (c + w) n

  abbrev has_column : ℕ → Bool
  has_column zero = ltb 0 (c % w)
  has_column (suc zero) = true
  has_column (suc (suc k)) = ltb (c % w + 1) w

  own_row : c / w * w + c % w ≡ c
  own_row = div-add-mod' c w

  own-row_fits : c / w * w + w ≤ n
  own-row_fits = row_fits w n (c / w * w) (mul-mod_left (c / w) w) G.whole (let e = own_row in omega arith)

  row-test : (r : ℕ) → r < 3 → leb 1 (c / w + r) && leb ((c / w + r) * w) n ≡ has_row r
  row-test zero h =
      same_test _ _
      (λ t. let l : 1 ≤ c / w + 0 = leb-true _ _ (and_left (leb 1 (c / w + 0)) _ t) in
      let k : 1 * w ≤ c / w * w = mul-le-mul_right w (omega arith) in
      let e = own_row in
      le-leb w c (omega arith))
      (λ t. let l : 1 ≤ c / w = (le-div_iff_mul-le G.wide).1 (let u : w ≤ c = leb-true w c t in omega arith) in
      let m = add-mul (c / w) 0 w in
      let f = own-row_fits in
      and_both _ _ (le-leb 1 (c / w + 0) (omega arith)) (le-leb ((c / w + 0) * w) n (omega arith)))
  row-test (suc zero) h =
      let m = add-mul (c / w) 1 w in
      let f = own-row_fits in
      and_both _ _ (le-leb 1 (c / w + 1) (omega arith)) (le-leb ((c / w + 1) * w) n (omega arith))
  row-test (suc (suc zero)) h =
      same_test _ _
      (λ t. let l : (c / w + 2) * w ≤ n = leb-true _ _ (and_right (leb 1 (c / w + 2)) _ t) in
      let m = add-mul (c / w) 2 w in
      let e = own_row in
      let k : c % w < w = mod-lt c G.wide in
      lt-ltb (c + w) n (omega arith))
      (λ t. let l : c + w < n = ltb-true (c + w) n t in
      let m = add-mul (c / w) 2 w in
      let e = own_row in
      let f : c / w * w + w + w ≤ n =
      row_fits w n (c / w * w + w) (row-after w (c / w * w) (mul-mod_left (c / w) w)) G.whole (omega arith) in
      and_both _ _ (le-leb 1 (c / w + 2) (omega arith)) (le-leb ((c / w + 2) * w) n (omega arith)))
  row-test (suc (suc (suc r))) h = absurd (omega arith)

  column_test : (k : ℕ) → k < 3 → leb 1 (c % w + k) && leb (c % w + k) w ≡ has_column k
  column_test k h = go k h (mod-lt c G.wide)
    where
      go : (k : ℕ) → k < 3 → c % w < w → leb 1 (c % w + k) && leb (c % w + k) w ≡ has_column k
      go zero h l =
          same_test _ _
          (λ t. let a : 1 ≤ c % w + 0 = leb-true _ _ (and_left (leb 1 (c % w + 0)) _ t) in lt-ltb 0 (c % w) (omega arith))
          (λ t. let a = ltb-true 0 (c % w) t in and_both _ _ (le-leb 1 (c % w + 0) (omega arith)) (le-leb (c % w + 0) w (omega arith)))
      go (suc zero) h l = and_both _ _ (le-leb 1 (c % w + 1) (omega arith)) (le-leb (c % w + 1) w (omega arith))
      go (suc (suc zero)) h l =
          same_test _ _
          (λ t. let a : c % w + 2 ≤ w = leb-true _ _ (and_right (leb 1 (c % w + 2)) _ t) in lt-ltb (c % w + 1) w (omega arith))
          (λ t. let a = ltb-true (c % w + 1) w t in and_both _ _ (le-leb 1 (c % w + 2) (omega arith)) (le-leb (c % w + 2) w (omega arith)))
      go (suc (suc (suc k))) h l = absurd (omega arith)

  on_tests : (p : ℕ) → p < 9 → on_tile w n c p ≡ has_row (p / 3) && has_column (p % 3)
  unfolding on_tile
  on_tests p h = rw (row-test (p / 3) (omega arith), column_test (p % 3) (omega arith))

  -- c is joined to a neighbour where the place is asked for and the tile has it
  asked : (N : Neighbours) (p : ℕ) → p < 9 → joins_at w n (beside (places_by N) w) c p ≡ any (eqb p) (places_by N) && (has_row (p / 3) && has_column (p % 3))
  asked N p h =
      same_test _ _
      (λ t. let o = and_left (on_tile w n c p) _ t in
      let S = on_stands w n c p h G.wide o in
      let (q, i, T) = beside_stands (places_by N) w n c (cell_at w c p) (rule_by_lem N) S.on (and_right (on_tile w n c p) _ t) in
      and_both _ _ (any_holds (eqb p) i (eq-eqb p q (sym (stands_place S) ∙ stands_place T))) (sym (on_tests p h) ∙ o))
      (λ t. let o : on_tile w n c p ≡ true = on_tests p h ∙ and_right (any (eqb p) (places_by N)) _ t in
      and_both _ _ o (stands_beside (on_stands w n c p h G.wide o) {places = places_by N} (any_in (and_left (any (eqb p) (places_by N)) _ t))))

  -- as a digit
  abbrev has : Neighbours → ℕ → ℕ
  has N p = cond (any (eqb p) (places_by N) && (has_row (p / 3) && has_column (p % 3))) 1 0

  digit : (N : Neighbours) (p : ℕ) → p < 9 → ◌≡◌ {A = ℕ} (cond (joins_at w n (beside (places_by N) w) c p) 1 0) (has N p)
  digit N p h = ap (λ (t : Bool). cond t 1 0) (asked N p h)

  mask_digits : (N : Neighbours) → neighbour_mask N w n c
      ≡ has N 0 + 2 * has N 1 + 4 * has N 2 + 8 * has N 3 + 16 * has N 5 + 32 * has N 6 + 64 * has N 7 + 128 * has N 8
  unfolding mask_of
  mask_digits N =
      let d0 = digit N 0 (omega arith) in let d1 = digit N 1 (omega arith) in let d2 = digit N 2 (omega arith) in
      let d3 = digit N 3 (omega arith) in let d5 = digit N 5 (omega arith) in let d6 = digit N 6 (omega arith) in
      let d7 = digit N 7 (omega arith) in let d8 = digit N 8 (omega arith) in
      omega arith

  -- the columns add up to the mask
  mask_columns : (N : Neighbours) → let above = leb w c in
      let below = ltb (c + w) n in
      neighbour_mask N w n c
      ≡ middle_column above below + cond (ltb 0 (c % w)) (left_column N above below) 0 + cond (ltb (c % w + 1) w) (right_column N above below) 0
  mask_columns Four =
      let e = mask_digits Four in
      let a = both (leb w c) true 2 in
      let b = both (ltb (c + w) n) true 64 in
      let l = both true (ltb 0 (c % w)) 8 in
      let r = both true (ltb (c % w + 1) w) 16 in
      omega arith
  mask_columns Eight =
      let e = mask_digits Eight in
      let a = both (leb w c) true 2 in
      let b = both (ltb (c + w) n) true 64 in
      let l = whole_column (leb w c) (ltb (c + w) n) (ltb 0 (c % w)) 1 8 32 in
      let r = whole_column (leb w c) (ltb (c + w) n) (ltb (c % w + 1) w) 4 16 128 in
      omega arith

-- the cells of the row that starts at b have its columns
module _ {w n : ℕ} (G : Rows w n) (b : ℕ) (start : b % w ≡ 0) (fits : b + w ≤ n) (N : Neighbours) (x : ℕ) (in_row : x < w) where
  same_above : leb w b ≡ leb w (b + x)
  same_above = same_leb w b w (b + x) (λ h. omega arith) (λ h. let z : b ≡ 0 = sym (mod-eq_of_lt h) ∙ start in omega arith)

  same_below : ltb (b + w) n ≡ ltb (b + x + w) n
  same_below =
      same_ltb (b + w) n (b + x + w) n (λ h. let f = row_fits w n (b + w) (row-after w b start) G.whole h in omega arith) (λ h. omega arith)

  pub row_columns : let above = leb w b in
      let below = ltb (b + w) n in
      in_column w (left_column N above below) (middle_column above below) (right_column N above below) x ≡ neighbour_mask N w n (b + x)
  row_columns = sym (mask_columns G (omega arith) N ∙ rw (row_column w b x start in_row, ← same_above, ← same_below))
