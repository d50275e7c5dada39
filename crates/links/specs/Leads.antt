-- Links by flat passes: a cell's own weight, and a bit for each neighbour whose weight leads to it.
-- Assumes nothing.
use Rattle.std.specs.Prelude.{cond, true, ◌&&◌, List, ◌⊎◌, ◌≡◌, ℕ, ◌+◌, ◌-◌, ◌<◌, ◌≤◌, eqb, leb, ltb, length}
use Rattle.grid.specs.Masks.{joined, leads, mask_of, Masks}
use Rattle.grid.specs.Neighbours.{places_by}
use Rattle.grid.specs.Window.{around, beside, Grid}
use Rattle.lists.specs.Lists.{at, filled}
use Rattle.grid.specs.declared.Neighbours.{Neighbours}

-- what is added to cell i: m where its neighbour, so many places after it or before it, is on the tile and has weight k; one of the two
-- counts is 0
abbrev pub added_to : (after before n : ℕ) (weights : List ℕ) (k m i : ℕ) → ℕ
added_to after before n weights k m i = cond (leb before i && (ltb (i + after) n && eqb (at weights (i + after - before)) k)) m 0

-- each entry of `new` is that of `old` and what f adds
pub record Added (f : ℕ → ℕ) (old new : List ℕ) : Type 0 where
  pub size : length new ≡ length old
  pub sums : (i : ℕ) → at new i ≡ at old i + f i

-- what is added fits into a byte
abbrev pub Fits : (f : ℕ → ℕ) (n : ℕ) → List ℕ → Type 0
Fits f n l = (i : ℕ) → i < n → at l i + f i < 256

-- both ways by so many places: the bit `back` where the neighbour before leads on, and the bit `on` where the one after leads back
abbrev pub added_both : (step n : ℕ) (weights : List ℕ) (back on i : ℕ) → ℕ
added_both step n weights back on i = added_to 0 step n weights on back i + added_to step 0 n weights back on i

-- the same by the corners
abbrev pub added_corners : (w n : ℕ) (weights : List ℕ) (i : ℕ) → ℕ
added_corners w n weights i = added_both (w - 1) n weights 4 32 i + added_both (w + 1) n weights 1 128 i

-- the weights say where each of n cells leads to, on a tile w wide: to itself or to a neighbour, and no two cells lead to each other
pub record Leading (N : Neighbours) (w n : ℕ) (f : ℕ → ℕ) (weights : List ℕ) : Type 0 where
  pub grid : Grid w n
  pub room : n ≤ length weights
  pub masks : Masks around w n (leads f) weights
  pub one_way : (c d : ℕ) → c < n → d < n → f c ≡ d → f d ≡ c → c ≡ d
  pub near : (c : ℕ) → c < n → (f c ≡ c) ⊎ (beside (places_by N) w c (f c) ≡ true)

-- what `link_leads` promises: the links with where each of n cells leads to, whatever the weights say of that
abbrev pub LeadsLinked : (N : Neighbours) (w n : ℕ) (weights before after : List ℕ) → Type 0
LeadsLinked N w n weights before after =
    (f : ℕ → ℕ) → Leading N w n f weights → after ≡ filled (mask_of around w n (joined f)) n before
