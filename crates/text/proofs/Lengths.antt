-- How long the text of a tile can be: 127,019 bytes, whatever its 16-bit and 32-bit entries are, if its levels are lifted heights.
-- Assumes nothing.
use mathlib.Core.List.{List, map, ◌++◌}
use mathlib.Core.Logic.{inl, inr, ◌⊎◌}
use mathlib.Core.Path.{ap, subst, ◌≡◌}
use Prim.Native.Nat.{suc, zero, ℕ, ◌*◌, ◌+◌, ◌-◌, ◌<◌, ◌≤◌}
use native.Mathlib.Numerals.{add-one}
use native.Mathlib.Omega.{arith}
use lib.ListN.{length, length-append, length-take, take}
use lib.Seq.{get_or-take}
use Rattle.grid.proofs.Rows.{rows_fit}
use Rattle.lists.proofs.Tests.{lt_or_ge}
use Rattle.lists.specs.Lists.{at, sum}
use Rattle.rules.specs.Ground.{dropped}
use Rattle.text.proofs.Digits.{length-decimal}
use Rattle.text.proofs.Lines.{cell_lines-first, cell_lines-lifted, cell_lines-none, length-cell_line, length-pair_line, length-refused_text, length-size_line}
use Rattle.text.proofs.Lines.{length-sums_line, level-above, level-below}
use Rattle.text.proofs.Sums.{outlet_drainage-first, outlet_drainage-most, sum-take-most}
use Rattle.text.specs.Text.{cell_line, cell_lines, outlet_drainage, pair_line, refused_text, signed_decimal, size_line, sums_line, tile_text}
use Rattle.text.specs.Writing.{most_text, Printable}

-- 8,000,000 has seven digits, and a sign may stand before them
pub length-signed_decimal : (x : ℕ) → x ≤ 16000000 → length (signed_decimal (dropped x)) ≤ 8
length-signed_decimal x h = go (lt_or_ge x 8000000)
  where
    go : (x < 8000000) ⊎ (8000000 ≤ x) → length (signed_decimal (dropped x)) ≤ 8
    go (inl l) = rw (level-below x l) (let e = length-decimal 6 (8000000 - x) (omega arith) in omega arith)
    go (inr l) = rw (level-above x l) (let e = length-decimal 6 (x - 8000000) (omega arith) in omega arith)

-- the entries of 16 bits and of 32 bits
pub record Entries (receivers drainage water : List ℕ) : Type 0 where
  pub receivers_16 : (c : ℕ) → at receivers c < 65536
  pub drainage_32 : (c : ℕ) → at drainage c < 4294967296
  pub water_16 : (c : ℕ) → at water c < 65536

-- the text of n cells as its three parts, and how long each can be
pub record Parts (w h n : ℕ) (r l d m water : List ℕ) : Type 0 where
  pub few : n ≤ 4096
  pub size : length (size_line w h) ≤ 11
  pub cells : length (cell_lines r (map dropped l) d n) ≤ 126976
  pub sums : length (sums_line (outlet_drainage d m n) (sum (take n water))) ≤ 32
  pub text : size_line w h ++ (cell_lines r (map dropped l) d n ++ sums_line (outlet_drainage d m n) (sum (take n water)))
      ≡ tile_text w h (take n r) (map dropped (take n l)) (take n d) (take n m) (take n water)

module _ (w h n : ℕ) (r l d m water text : List ℕ) (P : Printable w h n r l d m water text) (E : Entries r d water) where
  few_cells : n ≤ 4096
  few_cells = let k = rows_fit h w P.low P.narrow in omega (arith, P.cells)

  size_fits : length (size_line w h) ≤ 11
  size_fits =
      let a = length-decimal 1 w (omega (arith, P.narrow)) in
      let b = length-decimal 1 h (omega (arith, P.low)) in
      omega (arith, length-size_line w h)

  -- 4 digits for the number, 5 for the receiver, 8 for the level, 10 for the drainage, and what follows each
  cell_fits : (c : ℕ) → c < n → length (cell_line c (at r c) (dropped (at l c)) (at d c)) ≤ 31
  cell_fits c k =
      let f : n ≤ 4096 = few_cells in
      let i : c < length (take n l) = simp length-take (omega (arith, P.levels_hold)) in
      let low : at l c ≤ 16000000 = subst (λ (x : ℕ). x ≤ 16000000) (get_or-take n l c 0 k) (P.levels-lifted c i) in
      let a = length-decimal 3 c (omega arith) in
      let b = length-decimal 4 (at r c) (omega (arith, E.receivers_16 c)) in
      let z = length-signed_decimal (at l c) low in
      let e = length-decimal 9 (at d c) (omega (arith, E.drainage_32 c)) in
      omega (arith, length-cell_line c (at r c) (dropped (at l c)) (at d c))

  lines_fit : (k : ℕ) → k ≤ n → length (cell_lines r (map dropped l) d k) ≤ 31 * k
  lines_fit zero i = cell_lines-none r (map dropped l) d
  lines_fit (suc k) i =
      let a : length (cell_lines r (map dropped l) d k) ≤ 31 * k = lines_fit k (omega arith) in
      let b = cell_fits k (omega arith) in
      let e = cell_lines-lifted r l d k (omega (arith, P.levels_hold)) in
      rw (← add-one k) (omega (arith, simp length-append at (ap length e)))

  cells_fit : length (cell_lines r (map dropped l) d n) ≤ 126976
  cells_fit = let f : n ≤ 4096 = few_cells in let a = lines_fit n (omega arith) in omega arith

  sums_fit : length (sums_line (outlet_drainage d m n) (sum (take n water))) ≤ 32
  sums_fit =
      let f : n ≤ 4096 = few_cells in
      let s : outlet_drainage d m n ≤ 4294967295 * n = outlet_drainage-most d m n E.drainage_32 in
      let t : sum (take n water) ≤ 65535 * n = sum-take-most water n P.water_holds E.water_16 in
      let a = length-decimal 13 (outlet_drainage d m n) (omega arith) in
      let b = length-decimal 8 (sum (take n water)) (omega arith) in
      omega (arith, length-sums_line (outlet_drainage d m n) (sum (take n water)))

  whole : size_line w h ++ (cell_lines r (map dropped l) d n ++ sums_line (outlet_drainage d m n) (sum (take n water)))
      ≡ tile_text w h (take n r) (map dropped (take n l)) (take n d) (take n m) (take n water)
  unfolding tile_text
  whole = rw (← P.cells, cell_lines-first r l d n P.levels_hold, outlet_drainage-first d m n n (omega arith))

  pub parts_fit : Parts w h n r l d m water
  parts_fit = record { few = few_cells; size = size_fits; cells = cells_fit; sums = sums_fit; text = whole }

  pub tile_text_fits : length (tile_text w h (take n r) (map dropped (take n l)) (take n d) (take n m) (take n water)) ≤ most_text
  tile_text_fits =
      let a = size_fits in
      let b = cells_fit in
      let c = sums_fit in
      omega (arith, simp length-append at (ap length whole))

-- two numbers of 16 and of 32 bits
pub pair_line_fits : (word : List ℕ) (a b : ℕ) → a < 65536 → b < 4294967296 → length (pair_line word a b) ≤ length word + 17
pair_line_fits word a b h k =
    let d = length-decimal 4 a (omega arith) in
    let e = length-decimal 9 b (omega arith) in
    omega (arith, length-pair_line word a b)

-- a refusal of a number and a place of 16 bits
pub refused_text_fits : (n p : ℕ) → n < 65536 → p < 65536 → length (refused_text n p) ≤ 20
refused_text_fits n p h k =
    let a = length-decimal 4 n (omega arith) in
    let b = length-decimal 4 p (omega arith) in
    omega (arith, length-refused_text n p)
