-- The eight entries that a visit makes, as the code has them, are those of the places around: what lies between, from 256 times the width for a
-- row, and where the neighbour's links stand. A difference that may be below 0 is one that wraps.
-- Assumes nothing.
use Rattle.std.proofs.Common.{◌≡◌, ℕ, ◌+◌, ◌-◌, ◌*◌, ◌%◌, ◌^◌, ◌<◌, ◌≤◌, List, ◌∙◌, arith}
use Rattle.lists.specs.Lists.{at}
use Rattle.walk.specs.Climb.{beside_entry, between, entry, links_at, shifted}

module _ (w : ℕ) (links : List ℕ) (c : ℕ) (wide : 0 < w) (narrow : w ≤ 64) where
  -- e is made of c's own number in both parts, of x between and of the links at i
  abbrev Made : (e x i : ℕ) → Type 0
  Made e x i = e ≡ shifted (1048832 * c) x (at links i)

  made : (p : ℕ) {e x i : ℕ} → Made e x i → x ≡ between w p → i ≡ links_at w c p → e ≡ beside_entry w links c p
  made p h a b =
      let own : 1048832 * c ≡ entry c c 0 = omega arith in
      h ∙ rw (own, a, b)

  pub above-left : {e : ℕ} → Made e (4294966912 - 256 * w) (c + 65 - w - 1) → e ≡ beside_entry w links c 0
  above-left h = made 0 h (omega arith) (omega arith)

  pub above : {e : ℕ} → Made e (4294967232 - 256 * w) (c + 65 - w) → e ≡ beside_entry w links c 1
  above h = made 1 h (omega arith) (omega arith)

  pub above-right : {e x : ℕ} → x < 2 ^ 32 → (x + 256 * w) % 2 ^ 32 ≡ 224 → Made e x (c + 65 - w + 1) → e ≡ beside_entry w links c 2
  above-right small less h = made 2 h (omega arith) (omega arith)

  pub left : {e : ℕ} → Made e 4294967024 (c + 65 - 1) → e ≡ beside_entry w links c 3
  left h = made 3 h (omega arith) (omega arith)

  pub right : {e : ℕ} → Made e 248 (c + 65 + 1) → e ≡ beside_entry w links c 5
  right h = made 5 h (omega arith) (omega arith)

  pub below_left : {e x : ℕ} → x < 2 ^ 32 → (x + 260) % 2 ^ 32 ≡ 256 * w → Made e x (c + 65 + w - 1) → e ≡ beside_entry w links c 6
  below_left small less h = made 6 h (omega arith) (omega arith)

  pub below : {e : ℕ} → Made e (256 * w - 2) (c + 65 + w) → e ≡ beside_entry w links c 7
  below h = made 7 h (omega arith) (omega arith)

  pub below_right : {e : ℕ} → Made e (256 * w + 255) (c + 65 + w + 1) → e ≡ beside_entry w links c 8
  below_right h = made 8 h (omega arith) (omega arith)
