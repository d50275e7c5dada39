-- The links of pairs (rules 5 and 6), added to masks that don't have them.
-- Assumes nothing.
use Rattle.std.specs.Prelude.{Bool, true, ◌&&◌, ◌||◌, List, ◌≡◌, ℕ, ◌+◌, ◌-◌, ◌<◌, ◌≤◌, eqb, length, set}
use Rattle.grid.specs.Masks.{bit_of, mask_of, Masks}
use Rattle.grid.specs.Window.{around, Grid}
use Rattle.lists.specs.Lists.{any, at, filled, ◌∈◌}
use Rattle.pairs.specs.Pairs.{greater_of, lesser_of, Pairs, place_in}

-- c and d are the cells a and b, in either order
abbrev pub are_cells : (a b c d : ℕ) → Bool
are_cells a b c d = (eqb a c && eqb b d) || (eqb b c && eqb a d)

-- x added to cell a's mask and y to cell b's, both read before either is stored
abbrev pub both_added : (a x b y : ℕ) → List ℕ → List ℕ
both_added a x b y links = set (set links a (at links a + x)) b (at links b + y)

-- the bits of a pair: of the lesser cell towards the greater, and back
abbrev pub lesser_bit : ℕ → ℕ
lesser_bit p = bit_of around (place_in p)

abbrev pub greater_bit : ℕ → ℕ
greater_bit p = bit_of around (8 - place_in p)

-- all masks once the bits of a pair are added
abbrev pub added_in : (w p : ℕ) → List ℕ → List ℕ
added_in w p links = both_added (lesser_of p) (lesser_bit p) (greater_of w p) (greater_bit p) links

-- E joins c and d, or they are the two cells of one of the pairs
unfoldable pub with_pairs : (w : ℕ) (pairs : List ℕ) → (ℕ → ℕ → Bool) → ℕ → ℕ → Bool
with_pairs w pairs E c d = E c d || any (λ p. are_cells (lesser_of p) (greater_of w p) c d) pairs

-- pairs of neighbours, no two of the same cells, and masks that say E, which goes both ways and joins none of the pairs
pub record Addable (w n : ℕ) (E : ℕ → ℕ → Bool) (pairs links : List ℕ) : Type 0 where
  pub grid : Grid w n
  pub room : n ≤ length links
  pub neighbours : Pairs w n pairs
  pub both_ways : (c d : ℕ) → E c d ≡ E d c
  pub new : (p : ℕ) → p ∈ pairs → E (lesser_of p) (greater_of w p) ≡ true → ⊥
  pub once : (i j : ℕ) → i < j → j < length pairs → lesser_of (at pairs i) ≡ lesser_of (at pairs j)
      → greater_of w (at pairs i) ≡ greater_of w (at pairs j) → ⊥
  pub masks : Masks around w n E links

-- what `link_pairs` promises: the links that the masks say, whatever these are, and those of the pairs
abbrev pub PairsLinked : (w : ℕ) (pairs before after : List ℕ) → Type 0
PairsLinked w pairs before after =
    (n : ℕ) (E : ℕ → ℕ → Bool) → Addable w n E pairs before → after ≡ filled (mask_of around w n (with_pairs w pairs E)) n before
