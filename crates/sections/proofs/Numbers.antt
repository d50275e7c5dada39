-- One number in its bytes, over the width: what was written is read, and what was read is written.
-- Assumes nothing.
use mathlib.Core.List.{[], List, ◌++◌, ◌∷◌}
use mathlib.Core.Path.{ap, refl, sym, ◌∙◌, ◌≡◌}
use Prim.Native.Nat.{suc, zero, ℕ, ◌%◌, ◌*◌, ◌+◌, ◌/◌, ◌<◌, ◌^◌, ◌≤◌}
use native.Mathlib.Nat.{pow-suc, suc-add, zero-add}
use native.Mathlib.Omega.{arith}
use lib.ListN.{get_or, length}
use lib.Seq.{drop-cons}
use Rattle.lists.proofs.Below.{below_cons}
use Rattle.lists.specs.Lists.{Below, stretch}
use Rattle.sections.specs.LittleEndian.{bytes_of, number_at}

pub length-bytes_of : (w x : ℕ) → length (bytes_of w x) ≡ w
length-bytes_of zero x = refl
length-bytes_of (suc w) x = ap suc (length-bytes_of w (x / 256))

-- they are bytes
pub bytes_of-below : (w x : ℕ) → Below 256 (bytes_of w x)
bytes_of-below zero x = λ k l. absurd (omega arith)
bytes_of-below (suc w) x = below_cons 256 (x % 256) (bytes_of w (x / 256)) (omega arith) (bytes_of-below w (x / 256))

number_at_cons : (w b : ℕ) (s : List ℕ) (from : ℕ) → number_at w (b ∷ s) (suc from) ≡ number_at w s from
number_at_cons zero b s from = refl
number_at_cons (suc w) b s from = ap (λ (k : ℕ). get_or s from 0 + 256 * k) (number_at_cons w b s (suc from))

-- what stands in front is passed over
pub number_at_skip : (w : ℕ) (p s : List ℕ) (k : ℕ) → number_at w (p ++ s) (length p + k) ≡ number_at w s k
number_at_skip w [] s k = rw zero-add
number_at_skip w (x ∷ p) s k = rw suc-add (number_at_cons w x (p ++ s) (length p + k) ∙ number_at_skip w p s k)

div_less : (w x : ℕ) → x < 256 ^ suc w → x / 256 < 256 ^ w
div_less w x h = omega (arith, rw pow-suc at h)

-- what was written is read, whatever follows it
pub number_at-bytes_of : (w x : ℕ) (q : List ℕ) → x < 256 ^ w → number_at w (bytes_of w x ++ q) 0 ≡ x
number_at-bytes_of zero x q h = omega arith
number_at-bytes_of (suc w) x q h =
    rw (number_at_cons w (x % 256) (bytes_of w (x / 256) ++ q) 0, number_at-bytes_of w (x / 256) q (div_less w x h)) (omega arith)

-- a number read from w bytes fits w bytes
pub number_at-below : (w : ℕ) (s : List ℕ) (from : ℕ) → Below 256 s → from + w ≤ length s → number_at w s from < 256 ^ w
number_at-below zero s from b h = omega arith
number_at-below (suc w) s from b h =
    let x = b from (omega arith) in
    let y = number_at-below w s (suc from) b (omega arith) in
    rw pow-suc (omega arith)

-- what was read is written
pub bytes_of-number_at : (w : ℕ) (s : List ℕ) (from : ℕ) → Below 256 s → from + w ≤ length s
    → bytes_of w (number_at w s from) ≡ stretch from w s
bytes_of-number_at zero s from b h = refl
bytes_of-number_at (suc w) s from b h =
    let x = b from (omega arith) in
    let r = number_at w s (suc from) in
    let e1 : (get_or s from 0 + 256 * r) % 256 ≡ get_or s from 0 = omega arith in
    let e2 : (get_or s from 0 + 256 * r) / 256 ≡ r = omega arith in
    let l : from < length s = omega arith in
    rw (drop-cons s from 0 l, e1, e2, bytes_of-number_at w s (suc from) b (omega arith))

-- a number that stands in its bytes: they are its bytes
pub bytes_of_standing : (w : ℕ) (s : List ℕ) (from : ℕ) {x : ℕ} → Below 256 s → from + w ≤ length s → number_at w s from ≡ x
    → bytes_of w x ≡ stretch from w s
bytes_of_standing w s from b h e = ap (bytes_of w) (sym e) ∙ bytes_of-number_at w s from b h
