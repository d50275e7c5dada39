-- The loop that lists the pairs of neighbouring wet cells: two writes a turn, each counted if its pair is one of these. How many cells are
-- left of the row is counted down, and no column is divided out.
-- Assumes nothing.
use mathlib.Core.Bool.{Bool, cond, false, true}
use mathlib.Core.List.{append-nil, List}
use mathlib.Core.Logic.{inl, inr, ◌⊎◌}
use mathlib.Core.Path.{ap, refl, subst, sym, ◌∙◌, ◌≡◌}
use Prim.Native.Nat.{ℕ, ◌%◌, ◌*◌, ◌+◌, ◌-◌, ◌/◌, ◌<◌, ◌≤◌}
use native.Mathlib.Nat.{div-add-mod', mod-lt, mul-mod_left, zero-mod}
use native.Mathlib.Omega.{arith}
use lib.Dec.{eqb}
use lib.ListN.{length, length-set, set}
use borrow.Author.Tests.{eq-eqb, ne_eqb}
use Rattle.grid.proofs.Rows.{next_column, row-after}
use Rattle.lake_notes.specs.WetPairs.{wet_pair, wet_pairs, wet_side}
use Rattle.lists.proofs.Packs.{keep-next, packs_next, packs_none}
use Rattle.lists.proofs.Tests.{eq_or_ne}
use Rattle.lists.specs.Lists.{keep, upto}
use Rattle.lists.specs.Stores.{Packs}

-- a test as a bit
bit_most : (t : Bool) {b : ℕ} → b ≡ cond t 1 0 → b ≤ 1
bit_most true e = omega arith
bit_most false e = omega arith

bit_told : (t : Bool) {b : ℕ} → b ≡ cond t 1 0 → t ≡ eqb b 1
bit_told true e = rw e
bit_told false e = rw e

-- a number that fails the test is not written
packs_past : (t : ℕ → Bool) {l : List ℕ} {k : ℕ} (m : ℕ) → t m ≡ false → Packs (keep t (upto m)) l k → Packs (keep t (upto (m + 1))) l k
packs_past t {l} {k} m e P = subst (λ (p : List ℕ). Packs p l k) (sym (keep-next t m 0 e ∙ append-nil (keep t (upto m)))) P

-- cells left of a row, one cell on
left-next : (w c left : ℕ) → 0 < w → c % w + left ≡ w → (c + 1) % w + cond (eqb left 1) w (left - 1) ≡ w
left-next w c left wide e = go (eq_or_ne left 1)
  where
    go : (left ≡ 1) ⊎ (left ≡ 1 → ⊥) → (c + 1) % w + cond (eqb left 1) w (left - 1) ≡ w
    go (inl f) =
        let b : c / w * w + w ≡ c + 1 = let d = div-add-mod' c w in omega arith in
        let z : (c + 1) % w ≡ 0 = ap (λ (x : ℕ). x % w) (sym b) ∙ row-after w (c / w * w) (mul-mod_left (c / w) w) in
        rw (eq-eqb left 1 f) (omega arith)
    go (inr f) =
        let m = mod-lt c wide in
        let k : c % w + 1 < w = omega arith in
        let z = next_column c w k in
        rw (ne_eqb left 1 f) (omega arith)

module _ (w : ℕ) (heights levels : List ℕ) where
  -- the pairs of c cells are listed, and k is their number
  pub record Listing (old list : List ℕ) (k left c : ℕ) : Type 0 where
    pub long : length list ≡ length old
    pub most : k ≤ 2 * c
    pub packs : Packs (wet_pairs w heights levels c) list k
    pub in_row : c % w + left ≡ w

  pub listing_none : 0 < w → (old : List ℕ) → Listing old old 0 w 0
  unfolding wet_pairs
  listing_none wide old =
      record { long = refl; most = omega arith; packs = packs_none old; in_row = let z = zero-mod w in omega arith }

  module _ {old list : List ℕ} {k left c : ℕ} (Q : Listing old list k left c) where
    pub some_left : 0 < w → 0 < left
    some_left wide = let m = mod-lt c wide in omega (arith, Q.in_row)

    pub listing_next : 0 < w → 2 * c + 2 ≤ length old → (right below left' : ℕ) → right ≡ cond (wet_side w heights levels 0 c) 1 0
        → below ≡ cond (wet_side w heights levels 2 c) 1 0 → left' ≡ cond (eqb left 1) w (left - 1)
        → Listing old (set (set list k (4 * c)) (k + right) (4 * c + 2)) (k + right + below) left' (c + 1)
    unfolding wet_pairs wet_pair
    listing_next wide room right below left' er eb el =
        let a : 4 * c % 4 ≡ 0 = omega arith in let a' : 4 * c / 4 ≡ c = omega arith in
        let b : (4 * c + 1) % 4 ≡ 1 = omega arith in
        let d : (4 * c + 1 + 1) % 4 ≡ 2 = omega arith in let d' : (4 * c + 1 + 1) / 4 ≡ c = omega arith in
        let e : (4 * c + 1 + 1 + 1) % 4 ≡ 3 = omega arith in
        let n : 4 * c + 1 + 1 + 1 + 1 ≡ 4 * (c + 1) = omega arith in
        let two : 4 * c + 1 + 1 ≡ 4 * c + 2 = omega arith in
        let l = length-set list k (4 * c) in
        let mr = bit_most (wet_side w heights levels 0 c) er in
        let mb = bit_most (wet_side w heights levels 2 c) eb in
        record {
          long = length-set (set list k (4 * c)) (k + right) (4 * c + 2) ∙ l ∙ Q.long;
          most = omega (arith, Q.most);
          packs = rw (← n, ← two)
              (packs_past (wet_pair w heights levels) (4 * c + 1 + 1 + 1) (rw e)
              (packs_next (wet_pair w heights levels) (4 * c + 1 + 1) below (rw (d, d') (bit_told (wet_side w heights levels 2 c) eb)) mb
              (omega (arith, Q.long, Q.most))
              (packs_past (wet_pair w heights levels) (4 * c + 1) (rw b)
              (packs_next (wet_pair w heights levels) (4 * c) right (rw (a, a') (bit_told (wet_side w heights levels 0 c) er)) mr
              (omega (arith, Q.long, Q.most)) Q.packs))));
          in_row = rw el (left-next w c left wide Q.in_row);
        }

    -- all cells
    pub listing_all : c ≡ length heights → Packs (wet_pairs w heights levels (length heights)) list k × (k ≤ 2 * length heights)
    listing_all e = (subst (λ (z : ℕ). Packs (wet_pairs w heights levels z) list k) e Q.packs, omega (arith, Q.most))
