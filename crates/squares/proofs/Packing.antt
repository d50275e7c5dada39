-- The loop that packs the pairs of one cell after the other: each is written, and counted if the cell's flag has its bit.
-- Assumes nothing.
use mathlib.Core.List.{append_assoc, List, ◌++◌}
use mathlib.Core.Path.{ap, refl, subst, sym, ◌∙◌, ◌≡◌}
use native.Mathlib.Nat.{div-one}
use Prim.Native.Nat.{ℕ, ◌%◌, ◌*◌, ◌+◌, ◌/◌, ◌<◌, ◌≤◌}
use native.Mathlib.Omega.{arith}
use lib.ListN.{length}
use Rattle.lists.proofs.Packs.{keep-next, packs_none}
use Rattle.lists.specs.Lists.{keep, upto}
use Rattle.lists.specs.Stores.{Packs}
use Rattle.squares.specs.Listing.{pairs_for}
use Rattle.squares.specs.Squares.{bit_at, counted, flagged, pairs_at, pairs_of}
use Rattle.grid.specs.declared.Neighbours.{Neighbours}
use Rattle.grid.specs.declared.Neighbours.TheVariants.{Eight, Four}

-- so many pairs
pub pairs_more : (N : Neighbours) (c : ℕ) → pairs_for N (c + 1) ≡ pairs_for N c + pairs_for N 1
pairs_more Four c = omega arith
pairs_more Eight c = omega arith

pub pairs-most : (N : Neighbours) (c : ℕ) → pairs_for N c ≤ 4 * c
pairs-most Four c = omega arith
pairs-most Eight c = omega arith

-- four lists after another one
pub in_order : (l a b c d : List ℕ) → (((l ++ a) ++ b) ++ c) ++ d ≡ l ++ (a ++ (b ++ (c ++ d)))
in_order l a b c d = append_assoc ((l ++ a) ++ b) c d ∙ append_assoc (l ++ a) b (c ++ d) ∙ append_assoc l a (b ++ (c ++ d))

-- the pairs of the next cell
pub pairs_next : (flags : ℕ → ℕ) (c : ℕ) → pairs_of (c + 1) flags ≡ pairs_of c flags ++ pairs_at c (flags c)
unfolding pairs_of
pairs_next flags c =
    ap to (let e : 4 * (c + 1) ≡ 4 * c + 4 = omega arith in e)
    ∙ next 3 (4 * c + 3) (4 * c + 4) (omega arith) (omega arith) (omega arith)
    ∙ ap (λ (l : List ℕ). l ++ counted (4 * c + 3) (f / 8 % 2))
    (next 2 (4 * c + 2) (4 * c + 3) (omega arith) (omega arith) (omega arith)
    ∙ ap (λ (l : List ℕ). l ++ counted (4 * c + 2) (f / 4 % 2))
    (next 1 (4 * c + 1) (4 * c + 2) (omega arith) (omega arith) (omega arith)
    ∙ ap (λ (l : List ℕ). l ++ counted (4 * c + 1) (f / 2 % 2)) (next 0 (4 * c) (4 * c + 1) (omega arith) (omega arith) (omega arith) ∙ first)))
    ∙ in_order (to (4 * c)) (counted (4 * c) (f % 2)) (counted (4 * c + 1) (f / 2 % 2)) (counted (4 * c + 2) (f / 4 % 2))
    (counted (4 * c + 3) (f / 8 % 2))
  where
    f : ℕ
    f = flags c

    to : ℕ → List ℕ
    to m = keep (flagged flags) (upto m)

    next : (i m m' : ℕ) → i < 4 → m ≡ 4 * c + i → m' ≡ m + 1 → to m' ≡ to m ++ counted m (bit_at i f)
    next i m m' h e g =
        let a : m % 4 ≡ i = omega arith in
        let b : m / 4 ≡ c = omega arith in
        ap to g ∙ keep-next (flagged flags) m (bit_at i f) (rw (a, b))

    first : to (4 * c) ++ counted (4 * c) (bit_at 0 f) ≡ to (4 * c) ++ counted (4 * c) (f % 2)
    first = ap (λ (x : ℕ). to (4 * c) ++ counted (4 * c) (x % 2)) (div-one f)

-- the pairs of c cells are packed, and k is their number
pub record Packing (N : Neighbours) (flags : ℕ → ℕ) (old list : List ℕ) (k c : ℕ) : Type 0 where
  pub long : length list ≡ length old
  pub most : k ≤ pairs_for N c
  pub packs : Packs (pairs_of c flags) list k

module _ (N : Neighbours) (flags : ℕ → ℕ) where
  pub packing_none : (old : List ℕ) → Packing N flags old old 0 0
  unfolding pairs_of
  packing_none old = record { long = refl; most = omega arith; packs = packs_none old }

  pub packing_next : {old list list' : List ℕ} {k k' c : ℕ} → Packing N flags old list k c → length list' ≡ length list → k' ≤ k + pairs_for N 1
      → ((l : List ℕ) → Packs l list k → Packs (l ++ pairs_at c (flags c)) list' k') → Packing N flags old list' k' (c + 1)
  packing_next {list' = list'} {k' = k'} {c = c} P e h step =
      record {
        long = e ∙ P.long;
        most = omega (arith, P.most, pairs_more N c);
        packs = subst (λ (l : List ℕ). Packs l list' k') (sym (pairs_next flags c)) (step _ P.packs);
      }
