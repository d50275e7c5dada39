-- Pairs: the pair of two cells, and what a pair says of its cells.
-- Assumes nothing.
use mathlib.Core.Logic.{inl, inr, ◌⊎◌}
use mathlib.Core.Path.{◌≡◌}
use Prim.Native.Nat.{ℕ, ◌%◌, ◌*◌, ◌+◌, ◌-◌, ◌/◌, ◌<◌, ◌≤◌}
use native.Mathlib.Omega.{arith}
use Rattle.grid.proofs.Window.{stands_greater, stands_number}
use Rattle.grid.specs.Window.{Stands}
use Rattle.lists.proofs.Tests.{eq_or_ne}
use Rattle.pairs.specs.Pairs.{crossing_of, greater_of, IsPair, lesser_of, most_pairs, place_in}

-- the pair of c and d, where d stands i places after the middle and one more
module _ {w n c d : ℕ} (p i : ℕ) (e : p ≡ 4 * c + i) (h : i < 4) (S : Stands w n c (5 + i) d) where
  lesser-is : lesser_of p ≡ c
  lesser-is = omega arith

  place_is : place_in p ≡ 5 + i
  place_is = omega arith

  greater-is : greater_of w p ≡ d
  greater-is = rw (lesser-is, place_is) (let f = stands_number S in omega arith)

  pub pair_crossing : crossing_of w p ≡ record { lesser = c; greater = d }
  pair_crossing = λ j. record { lesser = lesser-is j; greater = greater-is j }

  pub pair_stands : IsPair w n p
  pair_stands = rw (greater-is, lesser-is, place_is) S

module _ (w n p : ℕ) (S : IsPair w n p) where
  -- its cells
  pub pair_rises : lesser_of p < greater_of w p
  pair_rises = stands_greater (omega arith) S

  pub pair-lesser : lesser_of p < n
  pair-lesser = let o = S.on in let r = pair_rises in omega arith

  -- pairs of at most 4,096 cells
  pub pair_small : n ≤ 4096 → p < most_pairs 4096
  pair_small few = let l = pair-lesser in omega arith

-- how far the greater cell is from the lesser: one on, or a row on, and from there one back, none or one on
pub step_on : (w : ℕ) → 1 + (w + 1) ≡ (5 + 0) / 3 * w + (5 + 0) % 3
step_on w = omega arith

pub step_down : (w i : ℕ) → 0 < w → 0 < i → i < 4 → w + i - 2 + (w + 1) ≡ (5 + i) / 3 * w + (5 + i) % 3
step_down w i h k l =
    let e : (5 + i) / 3 ≡ 2 = omega arith in
    let f : (5 + i) % 3 ≡ i - 1 = omega arith in
    rw (e, f) (omega arith)

pub pair_climbs : (w p : ℕ) → 0 < w → lesser_of p ≤ greater_of w p
pair_climbs w p h = go (eq_or_ne (p % 4) 0)
  where
    go : (p % 4 ≡ 0) ⊎ (p % 4 ≡ 0 → ⊥) → lesser_of p ≤ greater_of w p
    go (inl e) = let s = step_on w in rw e (omega arith)
    go (inr z) = let s = step_down w (p % 4) h (omega (arith, z)) (omega arith) in omega arith
