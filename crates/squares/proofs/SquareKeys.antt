-- The six pairs of a square's cells a, b, d and e, by number: ab, ad, ae, bd, be, de. They are numbered as rule 3 orders crossings of one height,
-- so that the lesser of two keys is that of the lesser crossing.
-- Assumes nothing.
use mathlib.Core.Bool.{Bool, cond, false, true}
use mathlib.Core.List.{List}
use mathlib.Core.Logic.{inl, inr, ◌⊎◌}
use mathlib.Core.Path.{ap, refl, subst, sym, ◌∙◌, ◌≡◌}
use Prim.Native.Nat.{max, suc, zero, ℕ, ◌%◌, ◌*◌, ◌+◌, ◌-◌, ◌/◌, ◌<◌, ◌≤◌, ◌^◌}
use native.Mathlib.Nat.{add-mod_right, div-eq_of_lt, pow-suc}
use native.Mathlib.Omega.{arith}
use lib.Dec.{eqb}
use lib.Pow.{pow-add, pow-lt, shl-shr}
use borrow.Author.Tests.{eqb-true, ne_eqb}
use Rattle.grid.proofs.Corners.{stands_east, stands_west}
use Rattle.grid.proofs.Rows.{next_column, right_on}
use Rattle.grid.proofs.Sides.{below_stands, right_stands}
use Rattle.grid.specs.Window.{Rows, Stands}
use Rattle.lists.proofs.Tests.{cond-one, cond_small, eq, gt, lt, lt_or_ge, Three, three}
use Rattle.lists.specs.Lists.{at}
use Rattle.pairs.proofs.PairOrder.{CellsLess, less_by}
use Rattle.rules.specs.Land.{Land}
use Rattle.rules.specs.Passes.{Crossing, crossing_height, less}
use Rattle.squares.specs.Squares.{cross_key, has_bit}

-- two cells as a crossing
abbrev pub pair : ℕ → ℕ → Crossing
pair a b = record { lesser = a; greater = b }

-- what holds of each number below 6
pub six : (P : ℕ → Type 0) → P 0 → P 1 → P 2 → P 3 → P 4 → P 5 → (i : ℕ) → i < 6 → P i
six P a b c d e f zero h = a
six P a b c d e f (suc zero) h = b
six P a b c d e f (suc (suc zero)) h = c
six P a b c d e f (suc (suc (suc zero))) h = d
six P a b c d e f (suc (suc (suc (suc zero)))) h = e
six P a b c d e f (suc (suc (suc (suc (suc zero))))) h = f
six P a b c d e f (suc (suc (suc (suc (suc (suc i)))))) h = absurd (omega arith)

-- a number has a bit if the digit there is a test that holds
pub bit_tells : (m bit : ℕ) (t : Bool) (higher : ℕ) → m / bit ≡ cond t 1 0 + 2 * higher → has_bit m bit ≡ t
bit_tells m bit t higher e =
    let s = cond_small t in let p : m / bit % 2 ≡ cond t 1 0 = omega arith in ap (λ (x : ℕ). eqb x 1) p ∙ cond-one t

-- a bit has no other bit
pub bit_told : (i j : ℕ) → has_bit (2 ^ i) (2 ^ j) ≡ true → i ≡ j
bit_told i j t = go (three i j)
  where
    told : 2 ^ i / 2 ^ j % 2 ≡ 1
    told = eqb-true _ _ t

    go : Three i j → i ≡ j
    go (lt h) = let z : 2 ^ i / 2 ^ j ≡ 0 = div-eq_of_lt (pow-lt h) in absurd (omega (arith, told))
    go (eq e) = e
    go (gt h) =
        let k : ℕ = i - j - 1 in
        let e : suc k + j ≡ i = omega arith in
        let z : 2 ^ i / 2 ^ j ≡ 2 ^ suc k = ap (λ (x : ℕ). 2 ^ x / 2 ^ j) (sym e) ∙ ap (λ (x : ℕ). x / 2 ^ j) (pow-add 2 (suc k) j) ∙ shl-shr (2 ^ suc k) j in
        let y = pow-suc 2 k in
        absurd (omega (arith, told))

module _ (w c : ℕ) where
  -- the two cells of each pair of the square that begins at c
  abbrev pub lesser_at : ℕ → ℕ
  lesser_at zero = c
  lesser_at (suc zero) = c
  lesser_at (suc (suc zero)) = c
  lesser_at (suc (suc (suc zero))) = c + 1
  lesser_at (suc (suc (suc (suc zero)))) = c + 1
  lesser_at (suc (suc (suc (suc (suc i))))) = c + w

  abbrev pub greater_at : ℕ → ℕ
  greater_at zero = c + 1
  greater_at (suc zero) = c + w
  greater_at (suc (suc zero)) = c + w + 1
  greater_at (suc (suc (suc zero))) = c + w
  greater_at (suc (suc (suc (suc i)))) = c + w + 1

  abbrev pub pair_at : ℕ → Crossing
  pair_at i = pair (lesser_at i) (greater_at i)

  -- the place of the greater one in the window of the lesser
  abbrev pub place_at : ℕ → ℕ
  place_at zero = 5
  place_at (suc zero) = 7
  place_at (suc (suc zero)) = 8
  place_at (suc (suc (suc zero))) = 6
  place_at (suc (suc (suc (suc zero)))) = 7
  place_at (suc (suc (suc (suc (suc i))))) = 5

  -- pairs are numbered as their cells are
  next-order : 1 < w → (i : ℕ) → i < 5 → CellsLess (pair_at i) (pair_at (suc i))
  next-order v zero h = inr (refl, omega arith)
  next-order v (suc zero) h = inr (refl, omega arith)
  next-order v (suc (suc zero)) h = inl (omega arith)
  next-order v (suc (suc (suc zero))) h = inr (refl, omega arith)
  next-order v (suc (suc (suc (suc zero)))) h = inl (omega arith)
  next-order v (suc (suc (suc (suc (suc i))))) h = absurd (omega arith)

less_then : {x y z : Crossing} → CellsLess x y → CellsLess y z → CellsLess x z
less_then (inl h) (inl k) = inl (omega arith)
less_then (inl h) (inr (e, k)) = inl (omega arith)
less_then (inr (e, h)) (inl k) = inl (omega arith)
less_then (inr (e, h)) (inr (f, k)) = inr (e ∙ f, omega arith)

-- keys of pairs
abbrev pub Keyed : ℕ → ℕ → Type 0
Keyed k bit = (k ≡ 0) ⊎ (k % 64 ≡ bit)

pub keyed : (la lb ha hb bit : ℕ) → bit < 64 → Keyed (cross_key la lb ha hb bit) bit
keyed la lb ha hb bit h = go (eqb la lb)
  where
    go : (t : Bool) → Keyed (cond t 0 (64 * max ha hb + bit)) bit
    go true = inl refl
    go false = inr (omega arith)

module _ (w c : ℕ) (v : 1 < w) where
  pair_before : (i j : ℕ) → i < j → j < 6 → CellsLess (pair_at w c i) (pair_at w c j)
  pair_before i zero h k = absurd (omega arith)
  pair_before i (suc j) h k = go (lt_or_ge i j) (pair_before i j)
    where
      go : (i < j) ⊎ (j ≤ i) → (i < j → j < 6 → CellsLess (pair_at w c i) (pair_at w c j)) → CellsLess (pair_at w c i) (pair_at w c (suc j))
      go (inl l) ih = less_then (ih l (omega arith)) (next-order w c v j (omega arith))
      go (inr l) ih = let e : i ≡ j = omega arith in rw e (next-order w c v j (omega arith))

module _ (L : Land) (w : ℕ) (heights labels : List ℕ) (high : (a : ℕ) → L.height a ≡ at heights a) (c : ℕ) (v : 1 < w) where
  -- the labels of pair i differ
  abbrev pub Differ : ℕ → Type 0
  Differ i = at labels (lesser_at w c i) ≡ at labels (greater_at w c i) → ⊥

  abbrev pub key_of : ℕ → ℕ
  key_of i = cross_key (at labels (lesser_at w c i)) (at labels (greater_at w c i)) (at heights (lesser_at w c i)) (at heights (greater_at w c i)) (2 ^ i)

  key-is : (i : ℕ) → Differ i → key_of i ≡ 64 * crossing_height L (pair_at w c i) + 2 ^ i
  unfolding crossing_height
  key-is i d = rw (ne_eqb (at labels (lesser_at w c i)) (at labels (greater_at w c i)) d, high (lesser_at w c i), high (greater_at w c i))

  -- the lesser key is that of the lesser crossing
  pub key-less : (i j : ℕ) → i < 6 → j < 6 → (i ≡ j → ⊥) → Differ i → Differ j → key_of i ≤ key_of j → less L (pair_at w c i) (pair_at w c j) ≡ true
  key-less i j h k z d e l =
      let a = key-is i d in let b = key-is j e in
      let p : 2 ^ i < 64 = pow-lt h in let q : 2 ^ j < 64 = pow-lt k in
      less_by L (pair_at w c i) (pair_at w c j) (omega arith) (λ s. pair_before w c v i j (earlier (three i j) (omega arith)) k)
    where
      earlier : Three i j → 2 ^ i ≤ 2 ^ j → i < j
      earlier (lt x) y = x
      earlier (eq x) y = absurd (z x)
      earlier (gt x) y = let o = pow-lt x in absurd (omega arith)

-- the square's cells on a tile
module _ {w n : ℕ} (G : Rows w n) (c : ℕ) (col : c % w + 1 < w) (low : c + w < n) where
  col_below : (c + w) % w + 1 < w
  col_below = subst (λ (m : ℕ). m + 1 < w) (sym (add-mod_right c w)) col

  pub last_on : c + w + 1 < n
  last_on = right_on n w (c + w) G.whole low col_below

  pub pair_on : (i : ℕ) → i < 6 → Stands w n (lesser_at w c i) (place_at w c i) (greater_at w c i)
  pair_on =
      six (λ i. Stands w n (lesser_at w c i) (place_at w c i) (greater_at w c i))
      (right_stands G (omega arith) col)
      (below_stands G (omega arith) low)
      (stands_east G (below_stands G (omega arith) low) (omega arith) col_below)
      left_below
      (subst (Stands w n (c + 1) 7) (let e : c + 1 + w ≡ c + w + 1 = omega arith in e) below)
      (right_stands G low col_below)
    where
      below : Stands w n (c + 1) 7 (c + 1 + w)
      below = below_stands G (omega (arith, last_on)) (omega (arith, last_on))

      left_below : Stands w n (c + 1) 6 (c + w)
      left_below =
          let k = below.column in
          let m = next_column c w col in
          subst (Stands w n (c + 1) 6) (let e : c + 1 + w - 1 ≡ c + w = omega arith in e) (stands_west G below (omega arith) (omega arith))
