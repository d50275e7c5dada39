-- A tile row by row: what `row_weights` stores for the cell in a column is that cell's weight.
-- Assumes nothing.
use Rattle.std.proofs.Common.{◌≡◌, ℕ, ◌*◌, ◌+◌, ◌/◌, ◌%◌, ◌<◌, ◌≤◌, ltb, leb, List, length, sym, refl, ap, ◌∙◌, add-zero, mod-eq_of_lt}
use Rattle.std.proofs.Common.{arith, ltb-false, ltb-true, le-ltb, lt-ltb, le-leb, leb-false, leb-true}
use borrow.Author.Tests.{lt-leb}
use native.Mathlib.Nat.{div-add-mod'}
use Rattle.first_receivers.specs.Weights.{Row, weight, weight_by}
use Rattle.grid.proofs.Rows.{cell_below, column_of, row-after, row_column, row_fits}
use Rattle.grid.proofs.Sides.{above_is, below_is, left_is, right_is}
use Rattle.grid.specs.Sides.{above, below, leftward, rightward}
use Rattle.grid.specs.Window.{Rows}
use Rattle.lists.proofs.Tests.{is, isnt, known, Known}
use Rattle.grid.specs.declared.Neighbours.{Neighbours}

-- the row that starts at b
pub row_of : (w n b : ℕ) → n % w ≡ 0 → b % w ≡ 0 → b < n → Row w n b (above w b) (below w n b)
row_of w n b whole s h =
    record {
      start = s;
      fits = row_fits w n b s whole h;
      up_is = refl;
      up_low = up (known (leb w b));
      down_is = refl;
      down_fits = down (known (ltb (b + w) n));
    }
  where
    up : Known (leb w b) → above w b ≤ b
    up (is t) = rw t (omega arith)
    up (isnt t) = rw t (omega arith)

    down : Known (ltb (b + w) n) → below w n b + w ≤ n
    down (is t) = rw t (row_fits w n (b + w) (row-after w b s) whole (ltb-true _ _ t))
    down (isnt t) = rw t (row_fits w n b s whole h)

-- row by row: the rows of n cells are so many, and the row of each number
pub rows_end : {w n : ℕ} → Rows w n → n / w * w ≡ n
rows_end {w} {n} G = let e = div-add-mod' n w in let f = G.whole in omega arith

pub row_at : {w n : ℕ} → Rows w n → (row : ℕ) → row < n / w → Row w n (row * w) (above w (row * w)) (below w n (row * w))
row_at {w} {n} G row h =
    let below : row * w + 0 < n / w * w = cell_below row 0 w (n / w) h G.wide in
    let end = rows_end G in
    let start : row * w % w ≡ 0 = ap (λ (z : ℕ). z % w) (sym (add-zero (row * w))) ∙ column_of w row 0 G.wide in
    row_of w n (row * w) G.whole start (omega arith)

-- the cells above and below the one in column x
module _ (w n b up down : ℕ) (whole : n % w ≡ 0) (R : Row w n b up down) (x : ℕ) (in_row : x < w) where
  above_at : up + x ≡ above w (b + x)
  above_at = ap (λ (z : ℕ). z + x) R.up_is ∙ go (known (leb w b))
    where
      go : Known (leb w b) → above w b + x ≡ above w (b + x)
      go (is t) = let q : w ≤ b = leb-true w b t in rw (t, le-leb w (b + x) (omega arith)) (omega arith)
      go (isnt t) =
          let q : b < w = leb-false w b t in
          let z : b ≡ 0 = sym (mod-eq_of_lt q) ∙ R.start in
          rw (t, lt-leb w (b + x) (omega arith))

  below_at : down + x ≡ below w n (b + x)
  below_at = ap (λ (z : ℕ). z + x) R.down_is ∙ go (known (ltb (b + w) n))
    where
      go : Known (ltb (b + w) n) → below w n b + x ≡ below w n (b + x)
      go (is t) =
          let q : b + w + w ≤ n = row_fits w n (b + w) (row-after w b R.start) whole (ltb-true _ _ t) in
          rw (t, lt-ltb (b + x + w) n (omega arith)) (omega arith)
      go (isnt t) = let q : n ≤ b + w = ltb-false _ _ t in rw (t, le-ltb (b + x + w) n (omega arith))

-- what is stored for the cell in column x
pub weight_at_lem : (N : Neighbours) (w b up down : ℕ) (heights marks : List ℕ) → Rows w (length heights) → Row w (length heights) b up down
    → (x : ℕ) → x < w → (c u l r d : ℕ) → c ≡ b + x → u ≡ up + x → d ≡ down + x → l ≡ leftward x (b + x) → r ≡ rightward w x (b + x)
    → weight_by N heights marks c u l r d ≡ weight N w heights marks (b + x)
weight_at_lem N w b up down heights marks G R x h c u l r d ec eu ed el er =
    let fits = R.fits in
    let on : b + x < length heights = omega arith in
    rw (
      ec,
      eu,
      ed,
      el,
      er,
      above_at w (length heights) b up down G.whole R x h,
      below_at w (length heights) b up down G.whole R x h,
      above_is G on,
      left_is G on,
      right_is G on,
      below_is G on,
      row_column w b x R.start h,
    )
