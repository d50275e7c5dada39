-- The pairs that are kept, by the flags: a cell's flag tells which of its pairs are, of those that are asked for; and they ascend.
-- Assumes nothing.
use mathlib.Core.Bool.{Bool, cond, false, true, ◌&&◌}
use mathlib.Core.List.{List}
use mathlib.Core.Path.{◌≡◌}
use Prim.Native.Nat.{suc, zero, ℕ, ◌%◌, ◌*◌, ◌+◌, ◌/◌, ◌<◌, ◌^◌}
use native.Mathlib.Omega.{arith}
use lib.Arith.{digits_div, digits_mod}
use lib.Dec.{eqb}
use lib.ListN.{length}
use Rattle.grid.specs.Neighbours.{places_by}
use Rattle.lists.proofs.Keep.{keep_holds, keep_same}
use Rattle.lists.proofs.Range.{upto_holds}
use Rattle.lists.proofs.Rising.{rising_ascends, rising_keep, rising_range}
use Rattle.lists.proofs.Tests.{cond_small, cond_times}
use Rattle.lists.specs.Ascending.{Ascending}
use Rattle.lists.specs.Lists.{any, keep, upto, ◌∈◌}
use Rattle.squares.proofs.SquareKeys.{bit_tells}
use Rattle.squares.specs.Squares.{flag_by, flagged, has_bit, keeps, margined, pairs_of, side_at, square_at}
use Rattle.grid.specs.declared.Neighbours.{Neighbours}
use Rattle.grid.specs.declared.Neighbours.TheVariants.{Eight, Four}

-- what holds of each number below 4
pub each_four : (P : ℕ → Type 0) → P 0 → P 1 → P 2 → P 3 → (i : ℕ) → i < 4 → P i
each_four P a b c d zero h = a
each_four P a b c d (suc zero) h = b
each_four P a b c d (suc (suc zero)) h = c
each_four P a b c d (suc (suc (suc zero))) h = d
each_four P a b c d (suc (suc (suc (suc i)))) h = absurd (omega arith)

-- a flag of four bits tells the test of each
module _ (a b c d : Bool) (m : ℕ) (e : m ≡ cond a 1 0 + cond b 2 0 + cond c 4 0 + cond d 8 0) where
  four_bits : (has_bit m 1 ≡ a) × (has_bit m 2 ≡ b) × (has_bit m 4 ≡ c) × (has_bit m 8 ≡ d)
  four_bits =
      let sa = cond_small a in let sb = cond_small b in let sc = cond_small c in let sd = cond_small d in
      let tb = cond_times b 2 in let tc = cond_times c 4 in let td = cond_times d 8 in
      let h2 : ℕ = cond c 1 0 + 2 * cond d 1 0 in (
        bit_tells m 1 a (cond b 1 0 + 2 * h2) (omega arith),
        bit_tells m 2 b h2 (omega arith),
        bit_tells m 4 c (cond d 1 0) (omega arith),
        bit_tells m 8 d 0 (omega arith),
      )

module _ (N : Neighbours) (w : ℕ) (heights labels : List ℕ) where
  -- the squares of the tile, after their margin
  abbrev pub tile_squares : ℕ → ℕ
  tile_squares = margined (square_at N w heights labels)

  -- the neighbours asked for have pairs of number i
  abbrev pub asked : ℕ → Bool
  asked i = any (eqb (5 + i)) (places_by N)

  -- the pair of number i of cell c is kept
  abbrev pub kept_at : (i c : ℕ) → Bool
  kept_at i c = asked i && keeps (side_at w i) (length heights) labels tile_squares c

  abbrev pub kept_pairs : List ℕ
  kept_pairs = keep (λ p. kept_at (p % 4) (p / 4)) (upto (4 * length heights))

  abbrev pub flag_of : ℕ → ℕ
  flag_of c = flag_by N w (length heights) labels tile_squares c

  pub kept_pair : (i c : ℕ) → i < 4 → c < length heights → kept_at i c ≡ true → c * 4 + i ∈ kept_pairs
  kept_pair i c h k t = keep_holds (λ p. kept_at (p % 4) (p / 4)) (upto_holds {n = 4 * length heights} (omega arith)) (rw (digits_mod c h, digits_div c h) t)

  pub pairs_ascend : Ascending kept_pairs
  pairs_ascend =
      rising_ascends (λ p. p) kept_pairs
      (rising_keep (λ p. p) (λ p. p) (λ p. kept_at (p % 4) (p / 4)) (λ x y s t l. l) (rising_range (4 * length heights) 0))

-- a flag's bit says whether its pair is kept
flag-told : (N : Neighbours) (w : ℕ) (heights labels : List ℕ) (c i : ℕ) → i < 4
    → has_bit (flag_of N w heights labels c) (2 ^ i) ≡ kept_at N w heights labels i c
flag-told Four w heights labels c =
    let k : ℕ → Bool = λ i. keeps (side_at w i) (length heights) labels (tile_squares Four w heights labels) c in
    let B = four_bits (k 0) false (k 2) false (flag_of Four w heights labels c) (omega arith) in
    each_four (λ i. has_bit (flag_of Four w heights labels c) (2 ^ i) ≡ kept_at Four w heights labels i c) B.0 B.1 B.2 B.3
flag-told Eight w heights labels c =
    let k : ℕ → Bool = λ i. keeps (side_at w i) (length heights) labels (tile_squares Eight w heights labels) c in
    let B = four_bits (k 0) (k 1) (k 2) (k 3) (flag_of Eight w heights labels c) (omega arith) in
    each_four (λ i. has_bit (flag_of Eight w heights labels c) (2 ^ i) ≡ kept_at Eight w heights labels i c) B.0 B.1 B.2 B.3

pub pairs-kept : (N : Neighbours) (w : ℕ) (heights labels : List ℕ) → pairs_of (length heights) (flag_of N w heights labels) ≡ kept_pairs N w heights labels
unfolding pairs_of
pairs-kept N w heights labels =
    keep_same (flagged (flag_of N w heights labels)) (λ p. kept_at N w heights labels (p % 4) (p / 4)) (upto (4 * length heights))
    (λ p m. flag-told N w heights labels (p / 4) (p % 4) (omega arith))
