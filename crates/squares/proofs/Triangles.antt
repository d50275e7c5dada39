-- With eight neighbours each two cells of a square are neighbours, and a pair that is the greatest of a triangle is never chosen.
-- Assumes nothing.
use mathlib.Core.Bool.{Bool, cond, true}
use mathlib.Core.List.{List}
use mathlib.Core.Logic.{inl, inr, ◌⊎◌}
use mathlib.Core.Path.{refl, subst, sym, ◌≡◌}
use Prim.Native.Nat.{max, min, suc, zero, ℕ, ◌*◌, ◌+◌, ◌<◌, ◌≤◌, ◌^◌}
use native.Mathlib.Omega.{arith}
use lib.Dec.{ltb}
use lib.ListN.{length}
use borrow.Author.Tests.{ltb-true}
use Rattle.lists.proofs.Tests.{cond_small, cond_times, lt_or_ge}
use Rattle.lists.specs.Lists.{◌∈◌}
use Rattle.rules.proofs.Rings.{pair_of-greater, pair_of-less, pair_of, triangle_greatest}
use Rattle.rules.specs.Land.{Land}
use Rattle.rules.specs.Passes.{chosen, Crossing, less, node}
use Rattle.squares.proofs.SquareCells as cells
use Rattle.squares.proofs.SquareCells.{both, labels_differ, land, next-to, on_tile_fact, Square, wide}
use Rattle.squares.proofs.SquareKeys.{bit_tells, greater_at, key-less, lesser_at, pair_at, six}
use Rattle.squares.specs.Squares.{has_bit, of_triangles}
use Rattle.grid.specs.declared.Neighbours.{Neighbours}

-- a number of six bits tells the test of each
module _ (a b d e f g : Bool) where
  abbrev six_bits : ℕ
  six_bits = cond a 1 0 + cond b 2 0 + cond d 4 0 + cond e 8 0 + cond f 16 0 + cond g 32 0

  six_bits_lem : (has_bit six_bits 1 ≡ a) × (has_bit six_bits 2 ≡ b) × (has_bit six_bits 4 ≡ d) × (has_bit six_bits 8 ≡ e) × (has_bit six_bits 16 ≡ f)
      × (has_bit six_bits 32 ≡ g)
  six_bits_lem =
      let sa = cond_small a in let sb = cond_small b in let sd = cond_small d in
      let se = cond_small e in let sf = cond_small f in let sg = cond_small g in
      let tb = cond_times b 2 in let td = cond_times d 4 in let te = cond_times e 8 in let tf = cond_times f 16 in let tg = cond_times g 32 in
      let h3 : ℕ = cond f 1 0 + 2 * cond g 1 0 in
      let h2 : ℕ = cond e 1 0 + 2 * h3 in
      let h1 : ℕ = cond d 1 0 + 2 * h2 in (
        bit_tells six_bits 1 a (cond b 1 0 + 2 * h1) (omega arith),
        bit_tells six_bits 2 b h1 (omega arith),
        bit_tells six_bits 4 d h2 (omega arith),
        bit_tells six_bits 8 e h3 (omega arith),
        bit_tells six_bits 16 f (cond g 1 0) (omega arith),
        bit_tells six_bits 32 g 0 (omega arith),
      )

module _ {N : Neighbours} {w : ℕ} {heights marks labels : List ℕ} {c : ℕ} (S : Square N w heights marks labels c) where
  abbrev L : Land
  L = land S

  abbrev n : ℕ
  n = length heights

  abbrev key : ℕ → ℕ
  key = cells.key S

  abbrev Differs : ℕ → Type 0
  Differs = cells.Differs S

  -- each two of the square's cells are neighbours, and a pair that is greater than both S others of a triangle is never chosen
  module _ (all-Asked : (i : ℕ) → i < 6 → cells.Asked S i) where
    -- the cells p and q, in this order or the other, are pair j
    record Joins (j p q : ℕ) : Type 0 where
      pub small : j < 6
      pub is : pair_of p q ≡ pair_at w c j
      pub near : L.beside p q ≡ true
      pub on : q < n
      pub differ : (node L p ≡ node L q → ⊥) → Differs j

    rises : (i : ℕ) → i < 6 → lesser_at w c i < greater_at w c i
    rises = let v = wide S in six (λ i. lesser_at w c i < greater_at w c i) (omega arith) (omega arith) (omega arith) (omega arith) (omega arith) (omega arith)

    joins : (j : ℕ) → j < 6 → Joins j (lesser_at w c j) (greater_at w c j)
    joins j h =
        record {
          small = h;
          is = pair_of-less (lesser_at w c j) (greater_at w c j) (rises j h);
          near = next-to S j h (all-Asked j h);
          on = (on_tile_fact S j h).1;
          differ = labels_differ S (lesser_at w c j) (greater_at w c j) (on_tile_fact S j h).0 (on_tile_fact S j h).1;
        }

    joins_back : (j : ℕ) → j < 6 → Joins j (greater_at w c j) (lesser_at w c j)
    joins_back j h =
        record {
          small = h;
          is = pair_of-greater (greater_at w c j) (lesser_at w c j) (rises j h);
          near = both S (lesser_at w c j) (greater_at w c j) (next-to S j h (all-Asked j h));
          on = (on_tile_fact S j h).0;
          differ = λ z. labels_differ S (lesser_at w c j) (greater_at w c j) (on_tile_fact S j h).0 (on_tile_fact S j h).1 (λ e. z (sym e));
        }

    -- pair i with a third cell z, which makes the pairs j and k with its two cells
    third : {i j k z : ℕ} → i < 6 → (j ≡ i → ⊥) → (k ≡ i → ⊥) → Joins j (lesser_at w c i) z → Joins k (greater_at w c i) z
        → (key j < key i) × (key k < key i) → Differs i → pair_at w c i ∈ chosen L → ⊥
    third {i} {j} {k} {z} h nj nk J K (lj, lk) d m =
        triangle_greatest L (both S) (lesser_at w c i) (greater_at w c i) z (on_tile_fact S i h).0 (on_tile_fact S i h).1 J.on own.near K.near
        (both S (lesser_at w c i) z J.near) (lesser K nk lk) (lesser J nj lj) (subst (λ (x : Crossing). x ∈ chosen L) (sym own.is) m)
      where
        own : Joins i (lesser_at w c i) (greater_at w c i)
        own = joins i h

        lesser : {p a : ℕ} → Joins p a z → (p ≡ i → ⊥) → key p < key i → (node L a ≡ node L z → ⊥)
            → less L (pair_of a z) (pair_of (lesser_at w c i) (greater_at w c i)) ≡ true
        lesser {p} {a} P np lp y =
            subst (λ (x : Crossing). less L x (pair_of (lesser_at w c i) (greater_at w c i)) ≡ true) (sym P.is)
            (subst (λ (x : Crossing). less L (pair_at w c p) x ≡ true) (sym own.is)
            (key-less L w heights labels (λ a. refl) c (wide S) p i P.small h np (P.differ y) d (omega arith)))

    -- a pair that is beaten is the greatest of one of its two triangles
    beaten_by : (x a a' b b' : ℕ) → ltb (min (max a a') (max b b')) x ≡ true → ((a < x) × (a' < x)) ⊎ ((b < x) × (b' < x))
    beaten_by x a a' b b' t = go (ltb-true _ _ t) (lt_or_ge (max a a') x)
      where
        go : min (max a a') (max b b') < x → (max a a' < x) ⊎ (x ≤ max a a') → ((a < x) × (a' < x)) ⊎ ((b < x) × (b' < x))
        go h (inl l) = inl (omega arith, omega arith)
        go h (inr l) = inr (omega arith, omega arith)

    either : {i j k y j' k' y' : ℕ} → i < 6 → (j ≡ i → ⊥) → (k ≡ i → ⊥) → (j' ≡ i → ⊥) → (k' ≡ i → ⊥)
        → Joins j (lesser_at w c i) y → Joins k (greater_at w c i) y → Joins j' (lesser_at w c i) y' → Joins k' (greater_at w c i) y'
        → ltb (min (max (key j) (key k)) (max (key j') (key k'))) (key i) ≡ true → Differs i → pair_at w c i ∈ chosen L → ⊥
    either {i} {j} {k} {y} {j'} {k'} {y'} h nj nk nj' nk' J K J' K' t d m = go (beaten_by (key i) (key j) (key k) (key j') (key k') t)
      where
        go : ((key j < key i) × (key k < key i)) ⊎ ((key j' < key i) × (key k' < key i)) → ⊥
        go (inl l) = third h nj nk J K l d m
        go (inr l) = third h nj' nk' J' K' l d m

    abbrev out : ℕ
    out = of_triangles (key 0) (key 1) (key 2) (key 3) (key 4) (key 5)

    -- pair i and its two triangles: the pairs that its cells make with either of the square's other two cells
    abbrev rivals : (i : ℕ) → (ℕ × ℕ) × (ℕ × ℕ)
    rivals zero = ((1, 3), (2, 4))
    rivals (suc zero) = ((0, 3), (2, 5))
    rivals (suc (suc zero)) = ((0, 4), (1, 5))
    rivals (suc (suc (suc zero))) = ((0, 1), (4, 5))
    rivals (suc (suc (suc (suc zero)))) = ((0, 2), (3, 5))
    rivals (suc (suc (suc (suc (suc i))))) = ((1, 2), (3, 4))

    abbrev is_beaten : ℕ → Bool
    is_beaten i = ltb (min (max (key (rivals i).0.0) (key (rivals i).0.1)) (max (key (rivals i).1.0) (key (rivals i).1.1))) (key i)

    -- a pair whose bit is there is beaten
    pub out_beaten : (i : ℕ) → i < 6 → has_bit out (2 ^ i) ≡ is_beaten i
    unfolding of_triangles
    out_beaten =
        let B = six_bits_lem (is_beaten 0) (is_beaten 1) (is_beaten 2) (is_beaten 3) (is_beaten 4) (is_beaten 5) in
        six (λ i. has_bit out (2 ^ i) ≡ is_beaten i) B.0 B.1 B.2 B.3 B.4 B.5

    pub out_never : (i : ℕ) → i < 6 → is_beaten i ≡ true → Differs i → pair_at w c i ∈ chosen L → ⊥
    out_never =
        six (λ i. is_beaten i ≡ true → Differs i → pair_at w c i ∈ chosen L → ⊥)
        (either l0 (λ e. omega arith) (λ e. omega arith) (λ e. omega arith) (λ e. omega arith) (joins 1 l1) (joins 3 l3) (joins 2 l2) (joins 4 l4))
        (either l1 (λ e. omega arith) (λ e. omega arith) (λ e. omega arith) (λ e. omega arith) (joins 0 l0) (joins_back 3 l3) (joins 2 l2) (joins 5 l5))
        (either l2 (λ e. omega arith) (λ e. omega arith) (λ e. omega arith) (λ e. omega arith) (joins 0 l0) (joins_back 4 l4) (joins 1 l1) (joins_back 5 l5))
        (either l3 (λ e. omega arith) (λ e. omega arith) (λ e. omega arith) (λ e. omega arith) (joins_back 0 l0) (joins_back 1 l1) (joins 4 l4) (joins 5 l5))
        (either l4 (λ e. omega arith) (λ e. omega arith) (λ e. omega arith) (λ e. omega arith)
        (joins_back 0 l0) (joins_back 2 l2) (joins 3 l3) (joins_back 5 l5))
        (either l5 (λ e. omega arith) (λ e. omega arith) (λ e. omega arith) (λ e. omega arith)
        (joins_back 1 l1) (joins_back 2 l2) (joins_back 3 l3) (joins_back 4 l4))
      where
        l0 : 0 < 6
        l0 = omega arith

        l1 : 1 < 6
        l1 = omega arith

        l2 : 2 < 6
        l2 = omega arith

        l3 : 3 < 6
        l3 = omega arith

        l4 : 4 < 6
        l4 = omega arith

        l5 : 5 < 6
        l5 = omega arith
