-- All pairs of neighbouring wet cells of a tile: as numbers of 16 bits (crate pairs), and as touches. Of a cell's four pairs by number two are
-- of neighbours that share a side: 0 is the one with the cell to the right, and 2 the one with the cell below.
-- Assumes nothing.
use Rattle.std.specs.Prelude.{Bool, false, ◌&&◌, [], List, ◌∷◌, suc, zero, ℕ, ◌%◌, ◌*◌, ◌+◌, ◌/◌, ◌<◌, ◌≤◌, ltb, length}
use Rattle.lake_rules.specs.Groups.{Touch}
use Rattle.lists.specs.Lists.{at, keep, upto, ◌∈◌}
use Rattle.pairs.specs.Pairs.{greater_of, lesser_of, pair_height, Pairs}
use Rattle.rules.specs.Network.{is_wet}

-- the wet cells among the first c, ascending
unfoldable pub wet_below : (heights levels : List ℕ) (c : ℕ) → List ℕ
wet_below heights levels c = keep (λ d. is_wet (at heights d) (at levels d)) (upto c)

-- both cells are wet
abbrev pub both_wet : (heights levels : List ℕ) (a b : ℕ) → Bool
both_wet heights levels a b = is_wet (at heights a) (at levels a) && is_wet (at heights b) (at levels b)

module _ (w : ℕ) (heights levels : List ℕ) where
  -- cell c has pair number i, its cells share a side, and both are wet
  abbrev pub wet_side : (i c : ℕ) → Bool
  wet_side zero c = ltb (c % w + 1) w && both_wet heights levels c (c + 1)
  wet_side (suc zero) c = false
  wet_side (suc (suc zero)) c = ltb (c + w) (length heights) && both_wet heights levels c (c + w)
  wet_side (suc (suc (suc i))) c = false

  unfoldable pub wet_pair : ℕ → Bool
  wet_pair p = wet_side (p % 4) (p / 4)

  -- the pairs of the first c cells, ascending
  unfoldable pub wet_pairs : ℕ → List ℕ
  wet_pairs c = keep wet_pair (upto (4 * c))

-- a pair as two neighbouring cells
abbrev pub touch_of : (w p : ℕ) → Touch
touch_of w p = record { lesser = lesser_of p; greater = greater_of w p }

-- the first i pairs of a list, the last first
abbrev pub met_touches : (w : ℕ) (list : List ℕ) → ℕ → List Touch
met_touches w list zero = []
met_touches w list (suc i) = touch_of w (at list i) ∷ met_touches w list i

-- pairs of a tile in the order in which they are taken: none is lower than one before it
pub record Climbing (w : ℕ) (heights list : List ℕ) : Type 0 where
  pub wide : 0 < w
  pub narrow : w ≤ 64
  pub few : length heights ≤ 4096
  pub neighbours : Pairs w (length heights) list
  pub climbs : (i j : ℕ) → i < j → j < length list → pair_height w heights (at list i) ≤ pair_height w heights (at list j)

-- all pairs of neighbouring wet cells, in that order
pub record WetClimbing (w : ℕ) (heights levels list : List ℕ) : Type 0 where
  pub climbing : Climbing w heights list
  pub only : (p : ℕ) → p ∈ list → p ∈ wet_pairs w heights levels (length heights)
  pub all : (p : ℕ) → p ∈ wet_pairs w heights levels (length heights) → p ∈ list
