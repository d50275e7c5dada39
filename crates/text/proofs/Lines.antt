-- The lines of the text: how long each is, and the signed number of a lifted level.
-- Assumes nothing.
use mathlib.Core.List.{[], List, map, ◌++◌, ◌∷◌}
use mathlib.Core.Path.{ap, sym, ◌∙◌, ◌≡◌}
use Prim.Native.Nat.{suc, ℕ, ◌+◌, ◌-◌, ◌<◌, ◌≤◌}
use native.Mathlib.Omega.{arith}
use lib.IntN.{pos, ℤ}
use lib.ListN.{get_or, length, length-append, length-take, take}
use lib.Seq.{get_or-take}
use borrow.Author.Tests.{le-leb, lt-leb}
use Rattle.lists.proofs.Flat.{flat_append, flat-next, flat_same}
use Rattle.lists.proofs.Map.{map_at}
use Rattle.lists.proofs.Range.{range_split, upto-below}
use Rattle.lists.specs.Lists.{at, flat, range, upto}
use Rattle.rules.specs.Ground.{dropped}
use Rattle.text.specs.Text.{cell_line, cell_lines, decimal, pair_line, refused_text, signed_decimal, size_line, sums_line}

-- digits and what follows them
pub length_field : (n after : ℕ) → length (decimal n ++ (after ∷ [])) ≡ length (decimal n) + 1
length_field n after = length-append (decimal n) (after ∷ [])

pub length-level : (z : ℤ) (after : ℕ) → length (signed_decimal z ++ (after ∷ [])) ≡ length (signed_decimal z) + 1
length-level z after = length-append (signed_decimal z) (after ∷ [])

-- a lifted level at 8,000,000 or above it, and below
pub level-above : (x : ℕ) → 8000000 ≤ x → signed_decimal (dropped x) ≡ decimal (x - 8000000)
unfolding signed_decimal
level-above x h = rw (le-leb 8000000 x h)

pub level-below : (x : ℕ) → x < 8000000 → signed_decimal (dropped x) ≡ 45 ∷ decimal (8000000 - x)
unfolding signed_decimal
level-below x h = rw (lt-leb 8000000 x h) (ap (λ (n : ℕ). 45 ∷ decimal n) (let e : suc (7999999 - x) ≡ 8000000 - x = omega arith in e))

pub length-pair_line : (word : List ℕ) (a b : ℕ) → length (pair_line word a b) ≡ length word + length (decimal a) + length (decimal b) + 2
length-pair_line word a b = simp length-append (omega arith)

pub length-size_line : (w h : ℕ) → length (size_line w h) ≡ length (decimal w) + length (decimal h) + 7
unfolding size_line
length-size_line w h = simp length-append (omega arith)

pub length-cell_line : (c r : ℕ) (z : ℤ) (d : ℕ)
    → length (cell_line c r z d) ≡ length (decimal c) + length (decimal r) + length (signed_decimal z) + length (decimal d) + 4
unfolding cell_line
length-cell_line c r z d = simp length-append (omega arith)

pub length-sums_line : (s t : ℕ) → length (sums_line s t) ≡ length (decimal s) + length (decimal t) + 9
unfolding sums_line
length-sums_line s t = simp length-append (omega arith)

pub length-refused_text : (n p : ℕ) → length (refused_text n p) ≡ length (decimal n) + length (decimal p) + 10
unfolding refused_text
length-refused_text n p = simp length-append (omega arith)

-- the lines of no cell
pub cell_lines-none : (receivers : List ℕ) (levels : List ℤ) (drainage : List ℕ) → length (cell_lines receivers levels drainage 0) ≤ 0
unfolding cell_lines
cell_lines-none receivers levels drainage = omega arith

-- the lines of one cell more
cell_lines-next : (receivers : List ℕ) (levels : List ℤ) (drainage : List ℕ) (n : ℕ)
    → cell_lines receivers levels drainage n ++ cell_line n (at receivers n) (get_or levels n (pos 0)) (at drainage n)
    ≡ cell_lines receivers levels drainage (n + 1)
unfolding cell_lines
cell_lines-next receivers levels drainage n = sym (flat-next (λ c. cell_line c (at receivers c) (get_or levels c (pos 0)) (at drainage c)) n)

-- levels that were lifted
pub cell_lines-lifted : (receivers levels drainage : List ℕ) (n : ℕ) → n < length levels
    → cell_lines receivers (map dropped levels) drainage n ++ cell_line n (at receivers n) (dropped (at levels n)) (at drainage n)
    ≡ cell_lines receivers (map dropped levels) drainage (n + 1)
cell_lines-lifted receivers levels drainage n h =
    ap (λ (z : ℤ). cell_lines receivers (map dropped levels) drainage n ++ cell_line n (at receivers n) z (at drainage n))
    (sym (map_at dropped levels n 0 (pos 0) h))
    ∙ cell_lines-next receivers (map dropped levels) drainage n

-- the first n entries of longer lists say the same
pub cell_lines-first : (receivers levels drainage : List ℕ) (n : ℕ) → n ≤ length levels
    → cell_lines (take n receivers) (map dropped (take n levels)) (take n drainage) n ≡ cell_lines receivers (map dropped levels) drainage n
unfolding cell_lines
cell_lines-first receivers levels drainage n h =
    flat_same (λ c. cell_line c (at (take n receivers) c) (get_or (map dropped (take n levels)) c (pos 0)) (at (take n drainage) c))
    (λ c. cell_line c (at receivers c) (get_or (map dropped levels) c (pos 0)) (at drainage c)) (upto n) (λ c m. same c (upto-below m))
  where
    same : (c : ℕ) → c < n
        → cell_line c (at (take n receivers) c) (get_or (map dropped (take n levels)) c (pos 0)) (at (take n drainage) c)
        ≡ cell_line c (at receivers c) (get_or (map dropped levels) c (pos 0)) (at drainage c)
    same c k =
        let l : c < length (take n levels) = simp length-take (omega arith) in
        let level = map_at dropped (take n levels) c 0 (pos 0) l in
        let here = map_at dropped levels c 0 (pos 0) (omega arith) in
        rw (get_or-take n receivers c 0 k, get_or-take n drainage c 0 k, level, get_or-take n levels c 0 k, here)

-- fewer cells take fewer bytes
pub cell_lines-within : (receivers : List ℕ) (levels : List ℤ) (drainage : List ℕ) (k n : ℕ) → k ≤ n
    → length (cell_lines receivers levels drainage k) ≤ length (cell_lines receivers levels drainage n)
unfolding cell_lines
cell_lines-within receivers levels drainage k n h =
    let f : ℕ → List ℕ = λ c. cell_line c (at receivers c) (get_or levels c (pos 0)) (at drainage c) in
    let e : k + (n - k) ≡ n = omega arith in
    let s : flat f (upto n) ≡ flat f (upto k) ++ flat f (range (0 + k) (n - k)) =
    ap (λ (m : ℕ). flat f (upto m)) (sym e) ∙ ap (flat f) (range_split 0 k (n - k)) ∙ flat_append f (upto k) (range (0 + k) (n - k)) in
    omega (arith, ap length s, length-append (flat f (upto k)) (flat f (range (0 + k) (n - k))))
