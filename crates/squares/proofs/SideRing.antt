-- The four sides of a square are a ring, so that the greatest of them is never chosen.
-- Assumes nothing.
use mathlib.Core.Bool.{true}
use mathlib.Core.List.{List}
use mathlib.Core.Logic.{inl, inr, ◌⊎◌}
use mathlib.Core.Path.{ap, refl, subst, sym, ◌∙◌, ◌≡◌}
use Prim.Native.Nat.{max, suc, zero, ℕ, ◌%◌, ◌+◌, ◌/◌, ◌<◌, ◌≤◌, ◌^◌}
use native.Mathlib.Nat.{zero-div}
use native.Mathlib.Omega.{arith}
use lib.ListN.{length}
use borrow.Author.Tests.{eqb-true}
use Rattle.grid.proofs.Rules.{sides-asked}
use Rattle.grid.specs.Neighbours.{places_by}
use Rattle.lists.proofs.Any.{any_in}
use Rattle.lists.proofs.Tests.{lt_or_ge}
use Rattle.lists.specs.Lists.{◌∈◌}
use Rattle.rules.proofs.Rings.{pair_of-greater, pair_of-less, pair_of, Ring, ring_greatest}
use Rattle.rules.specs.Land.{Land}
use Rattle.rules.specs.Passes.{chosen, Crossing, less, node}
use Rattle.squares.proofs.SquareCells as cells
use Rattle.squares.proofs.SquareCells.{both, key_tells, labels_differ, land, last, next-to, Square, wide}
use Rattle.squares.proofs.SquareKeys.{bit_told, key-less, Keyed, pair_at}
use Rattle.squares.specs.Squares.{has_bit}
use Rattle.grid.specs.declared.Neighbours.{Neighbours}

module _ {N : Neighbours} {w : ℕ} {heights marks labels : List ℕ} {c : ℕ} (S : Square N w heights marks labels c) where
  abbrev L : Land
  L = land S

  abbrev n : ℕ
  n = length heights

  abbrev key : ℕ → ℕ
  key = cells.key S

  abbrev Differs : ℕ → Type 0
  Differs = cells.Differs S

  -- the four sides are a ring
  right-asked : 5 ∈ places_by N
  right-asked = sides-asked N 5 (any_in refl)

  below-asked : 7 ∈ places_by N
  below-asked = sides-asked N 7 (any_in refl)

  abbrev in_turn : ℕ → ℕ
  in_turn zero = c
  in_turn (suc zero) = c + 1
  in_turn (suc (suc zero)) = c + w + 1
  in_turn (suc (suc (suc zero))) = c + w
  in_turn (suc (suc (suc (suc j)))) = c

  -- the number of the pair at each step
  abbrev number_at : ℕ → ℕ
  number_at zero = 0
  number_at (suc zero) = 4
  number_at (suc (suc zero)) = 5
  number_at (suc (suc (suc j))) = 1

  four : (P : ℕ → Type 0) → P 0 → P 1 → P 2 → P 3 → (j : ℕ) → j < 4 → P j
  four P a b d e zero h = a
  four P a b d e (suc zero) h = b
  four P a b d e (suc (suc zero)) h = d
  four P a b d e (suc (suc (suc zero))) h = e
  four P a b d e (suc (suc (suc (suc j)))) h = absurd (omega arith)

  step_pair : (j : ℕ) → j < 4 → pair_of (in_turn j) (in_turn (suc j)) ≡ pair_at w c (number_at j)
  step_pair =
      let v = wide S in
      four (λ j. pair_of (in_turn j) (in_turn (suc j)) ≡ pair_at w c (number_at j))
      (pair_of-less c (c + 1) (omega arith))
      (pair_of-less (c + 1) (c + w + 1) (omega arith))
      (pair_of-greater (c + w + 1) (c + w) (omega arith))
      (pair_of-greater (c + w) c (omega arith))

  ring : Ring L (both S) in_turn 3
  ring =
      let l = last S in
      record {
        closed = refl;
        on = λ j h. four (λ i. in_turn i < n) (omega arith) (omega arith) (omega arith) (omega arith) j (omega arith);
        next = λ j h.
            four (λ i. L.beside (in_turn i) (in_turn (suc i)) ≡ true)
            (next-to S 0 (omega arith) right-asked)
            (next-to S 4 (omega arith) below-asked)
            (both S (c + w) (c + w + 1) (next-to S 5 (omega arith) right-asked))
            (both S c (c + w) (next-to S 1 (omega arith) below-asked))
            j (omega arith);
      }

  nodes_differ : (j : ℕ) → j < 4 → (node L (in_turn j) ≡ node L (in_turn (suc j)) → ⊥) → Differs (number_at j)
  nodes_differ =
      let l = last S in
      four (λ j. (node L (in_turn j) ≡ node L (in_turn (suc j)) → ⊥) → Differs (number_at j))
      (λ z. labels_differ S c (c + 1) (omega arith) (omega arith) z)
      (λ z. labels_differ S (c + 1) (c + w + 1) (omega arith) (omega arith) z)
      (λ z. labels_differ S (c + w) (c + w + 1) (omega arith) (omega arith) (λ e. z (sym e)))
      (λ z. labels_differ S c (c + w) (omega arith) (omega arith) (λ e. z (sym e)))

  abbrev most : ℕ
  most = max (max (key 0) (key 1)) (max (key 4) (key 5))

  -- the greatest key is one of the four, and tells its own bit
  told_key : (i s : ℕ) → i < 6 → most ≡ key i → has_bit (most % 64) (2 ^ s) ≡ true → key s ≡ most
  told_key i s h e t = go (key_tells S i h)
    where
      go : Keyed (key i) (2 ^ i) → key s ≡ most
      go (inl z) =
          let m : most % 64 ≡ 0 = ap (λ (x : ℕ). x % 64) (e ∙ z) in
          absurd (no_bit (subst (λ (x : ℕ). has_bit x (2 ^ s) ≡ true) m t))
        where
          no_bit : has_bit 0 (2 ^ s) ≡ true → ⊥
          no_bit u = let y : 0 / 2 ^ s ≡ 0 = zero-div (2 ^ s) in let x : 0 / 2 ^ s % 2 ≡ 1 = eqb-true _ _ u in omega arith
      go (inr z) =
          let m : most % 64 ≡ 2 ^ i = ap (λ (x : ℕ). x % 64) e ∙ z in
          sym (e ∙ ap key (bit_told i s (subst (λ (x : ℕ). has_bit x (2 ^ s) ≡ true) m t)))

  most_told : (s : ℕ) → has_bit (most % 64) (2 ^ s) ≡ true → key s ≡ most
  most_told s t = go (one_of (max (key 0) (key 1)) (max (key 4) (key 5))) (one_of (key 0) (key 1)) (one_of (key 4) (key 5))
    where
      one_of : (x y : ℕ) → (max x y ≡ x) ⊎ (max x y ≡ y)
      one_of x y = pick (lt_or_ge x y)
        where
          pick : (x < y) ⊎ (y ≤ x) → (max x y ≡ x) ⊎ (max x y ≡ y)
          pick (inl h) = inr (omega arith)
          pick (inr h) = inl (omega arith)

      go : (most ≡ max (key 0) (key 1)) ⊎ (most ≡ max (key 4) (key 5)) → (max (key 0) (key 1) ≡ key 0) ⊎ (max (key 0) (key 1) ≡ key 1)
          → (max (key 4) (key 5) ≡ key 4) ⊎ (max (key 4) (key 5) ≡ key 5) → key s ≡ most
      go (inl e) (inl f) g = told_key 0 s (omega arith) (e ∙ f) t
      go (inl e) (inr f) g = told_key 1 s (omega arith) (e ∙ f) t
      go (inr e) f (inl g) = told_key 4 s (omega arith) (e ∙ g) t
      go (inr e) f (inr g) = told_key 5 s (omega arith) (e ∙ g) t

  no_more : (j : ℕ) → j < 4 → key (number_at j) ≤ most
  no_more = four (λ j. key (number_at j) ≤ most) (at_most (key 0) (key 1) (key 4) (key 5)).0 (at_most (key 0) (key 1) (key 4) (key 5)).2
      (at_most (key 0) (key 1) (key 4) (key 5)).3 (at_most (key 0) (key 1) (key 4) (key 5)).1
    where
      at_most : (x y z u : ℕ) → (x ≤ max (max x y) (max z u)) × (y ≤ max (max x y) (max z u)) × (z ≤ max (max x y) (max z u)) × (u ≤ max (max x y) (max z u))
      at_most x y z u = (omega arith, omega arith, omega arith, omega arith)

  number_once : (i j : ℕ) → i < 4 → j < 4 → (j ≡ i → ⊥) → number_at j ≡ number_at i → ⊥
  number_once i j h k z e = z (sym (back j k) ∙ ap step_of e ∙ back i h)
    where
      step_of : ℕ → ℕ
      step_of zero = 0
      step_of (suc zero) = 3
      step_of (suc (suc zero)) = 0
      step_of (suc (suc (suc zero))) = 0
      step_of (suc (suc (suc (suc zero)))) = 1
      step_of (suc (suc (suc (suc (suc i))))) = 2

      back : (j : ℕ) → j < 4 → step_of (number_at j) ≡ j
      back = four (λ j. step_of (number_at j) ≡ j) refl refl refl refl

  number_small : (j : ℕ) → j < 4 → number_at j < 6
  number_small = four (λ j. number_at j < 6) (omega arith) (omega arith) (omega arith) (omega arith)

  pub greatest_side_never : (i : ℕ) → i < 4 → has_bit (most % 64) (2 ^ number_at i) ≡ true → Differs (number_at i) → pair_at w c (number_at i) ∈ chosen L → ⊥
  greatest_side_never i h t d m =
      ring_greatest L (both S) in_turn 3 ring i (omega arith) greatest (subst (λ (x : Crossing). x ∈ chosen L) (sym (step_pair i h)) m)
    where
      greatest : (j : ℕ) → j ≤ 3 → (j ≡ i → ⊥) → (node L (in_turn j) ≡ node L (in_turn (suc j)) → ⊥)
          → less L (pair_of (in_turn j) (in_turn (suc j))) (pair_of (in_turn i) (in_turn (suc i))) ≡ true
      greatest j k z a =
          let l : j < 4 = omega arith in
          subst (λ (x : Crossing). less L x (pair_of (in_turn i) (in_turn (suc i))) ≡ true) (sym (step_pair j l))
          (subst (λ (x : Crossing). less L (pair_at w c (number_at j)) x ≡ true) (sym (step_pair i h))
          (key-less L w heights labels (λ a. refl) c (wide S) (number_at j) (number_at i) (number_small j l) (number_small i h) (number_once i j h l z)
          (nodes_differ j l a) d (subst (λ (x : ℕ). key (number_at j) ≤ x) (sym (most_told (number_at i) t)) (no_more j l))))
