-- Rows and columns of a tile w wide: cell `row * w + col` stands in row `c / w` and column `c % w`, and rows start at multiples of w.
-- Assumes nothing.
use mathlib.Core.Logic.{inl, inr, ◌⊎◌}
use mathlib.Core.Path.{ap, sym, ◌∙◌, ◌≡◌}
use Prim.Native.Nat.{ℕ, ◌%◌, ◌*◌, ◌+◌, ◌-◌, ◌/◌, ◌<◌, ◌≤◌}
use native.Mathlib.Nat.{add-mod_right, add-zero, div-add-mod', div-eq_of_lt, mod-add-mod, mod-eq_of_lt, mod-le, mod-lt, mul-add-div_right}
use native.Mathlib.Nat.{mul-add-mod_self_right, mul-le-mul_right, suc-mul, zero-add}
use native.Mathlib.Numerals.{add-one}
use native.Mathlib.Omega.{arith}
use Rattle.lists.proofs.Tests.{lt_or_ge}

-- the next row
pub row_next : (row w : ℕ) → (row + 1) * w ≡ row * w + w
row_next row w = rw (add-one, suc-mul)

-- a cell is within the tile
pub cell_below : (row col w h : ℕ) → row < h → col < w → row * w + col < h * w
cell_below row col w h r c =
    let m : (row + 1) * w ≤ h * w = mul-le-mul_right w (omega arith) in
    let e = row_next row w in
    omega arith

-- at most 64 by 64
pub rows_fit : (row w : ℕ) → row ≤ 64 → w ≤ 64 → row * w ≤ 4096
rows_fit row w r c =
    let m : row * w ≤ 64 * w = mul-le-mul_right w r in
    omega arith

-- row and column of cell `row * w + col`
pub row_of : (w row col : ℕ) → col < w → (row * w + col) / w ≡ row
row_of w row col h =
    let wide : 0 < w = omega arith in
    mul-add-div_right wide row col ∙ ap (λ (z : ℕ). row + z) (div-eq_of_lt h) ∙ add-zero row

pub column_of : (w row col : ℕ) → col < w → (row * w + col) % w ≡ col
column_of w row col h = mul-add-mod_self_right row w col ∙ mod-eq_of_lt h

-- the next cell of a row
pub next_column : (c w : ℕ) → c % w + 1 < w → (c + 1) % w ≡ c % w + 1
next_column c w h = sym (mod-add-mod c w 1) ∙ mod-eq_of_lt h

pub next_row : (c w : ℕ) → 0 < w → c % w + 1 < w → (c + 1) / w ≡ c / w
next_row c w p h =
    ap (λ (n : ℕ). n / w) e ∙ mul-add-div_right p (c / w) (c % w + 1) ∙ ap (λ (n : ℕ). c / w + n) (div-eq_of_lt h) ∙ add-zero (c / w)
  where
    e : c + 1 ≡ c / w * w + (c % w + 1)
    e = let d : c / w * w + c % w ≡ c = div-add-mod' c w in omega arith

-- in n cells of whole rows a cell that doesn't end its row is not the last
pub right_on : (n w c : ℕ) → n % w ≡ 0 → c < n → c % w + 1 < w → c + 1 < n
right_on n w c whole h k = go (lt_or_ge (c + 1) n)
  where
    go : (c + 1 < n) ⊎ (n ≤ c + 1) → c + 1 < n
    go (inl l) = l
    go (inr l) =
        let e : c + 1 ≡ n = omega arith in
        let z : c % w + 1 ≡ 0 = sym (next_column c w k) ∙ ap (λ (m : ℕ). m % w) e ∙ whole in
        absurd (omega arith)

-- a cell that doesn't begin its row comes after one that doesn't end it
pub left_column_lem : (w a : ℕ) → 0 < w → 0 < a % w → ((a - 1) % w + 1 < w) × (a - 1 + 1 ≡ a)
left_column_lem w a h k = (below (lt_or_ge ((a - 1) % w + 1) w), e)
  where
    e : a - 1 + 1 ≡ a
    e = let m : a % w ≤ a = mod-le a w in omega arith

    below : ((a - 1) % w + 1 < w) ⊎ (w ≤ (a - 1) % w + 1) → (a - 1) % w + 1 < w
    below (inl l) = l
    below (inr l) =
        let m : (a - 1) % w < w = mod-lt (a - 1) h in
        let f : (a - 1) % w + 1 ≡ 0 + w = omega arith in
        let z : a % w ≡ 0 =
        ap (λ (n : ℕ). n % w) (sym e) ∙ sym (mod-add-mod (a - 1) w 1) ∙ ap (λ (n : ℕ). n % w) f ∙ add-mod_right 0 w ∙ mod-eq_of_lt h in
        absurd (omega arith)

-- rows start at multiples of w: the columns of the row that starts at b, the start of the next row, and whole rows in n cells
pub row_column : (w b x : ℕ) → b % w ≡ 0 → x < w → (b + x) % w ≡ x
row_column w b x s h =
    sym (mod-add-mod b w x) ∙ ap (λ (z : ℕ). (z + x) % w) s ∙ ap (λ (z : ℕ). z % w) (zero-add x) ∙ mod-eq_of_lt h

pub row-after : (w b : ℕ) → b % w ≡ 0 → (b + w) % w ≡ 0
row-after w b s = add-mod_right b w ∙ s

pub row_fits : (w n b : ℕ) → b % w ≡ 0 → n % w ≡ 0 → b < n → b + w ≤ n
row_fits w n b s whole h = go (lt_or_ge n (b + w))
  where
    go : (n < b + w) ⊎ (b + w ≤ n) → b + w ≤ n
    go (inr l) = l
    go (inl l) =
        let e : b + (n - b) ≡ n = omega arith in
        let z : n - b ≡ 0 = sym (row_column w b (n - b) s (omega arith)) ∙ ap (λ (m : ℕ). m % w) e ∙ whole in
        absurd (omega arith)

-- two cells of one column are no less than a row apart
pub column_apart : (w a b : ℕ) → 0 < w → a % w ≡ b % w → a < b → b < a + w → ⊥
column_apart w a b h e l u = go (lt_or_ge (a % w + m) w)
  where
    m : ℕ
    m = b - a

    f : (a % w + m) % w ≡ b % w
    f = mod-add-mod a w m ∙ ap (λ (z : ℕ). z % w) s
      where
        s : a + m ≡ b
        s = omega arith

    go : (a % w + m < w) ⊎ (w ≤ a % w + m) → ⊥
    go (inl k) = let q : (a % w + m) % w ≡ a % w + m = mod-eq_of_lt k in omega (arith, f)
    go (inr k) =
        let x : ℕ = a % w + m - w in
        let y : x + w ≡ a % w + m = omega arith in
        let z : a % w < w = mod-lt a h in
        let v : x < w = omega arith in
        let q : (a % w + m) % w ≡ x = ap (λ (i : ℕ). i % w) (sym y) ∙ add-mod_right x w ∙ mod-eq_of_lt v in
        omega (arith, f)
