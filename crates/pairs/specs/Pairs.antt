-- Two neighbours as one number: 4 times the lesser cell, and at which of the places 5 to 8 of its window the greater one stands: 0 to the
-- right, 1 below to the left, 2 below, 3 below to the right. So a pair says its two cells whatever rule made them neighbours.
-- Assumes nothing.
use Rattle.std.specs.Prelude.{List, max, ℕ, ◌%◌, ◌*◌, ◌+◌, ◌-◌, ◌/◌}
use Rattle.grid.specs.Window.{Stands}
use Rattle.lists.specs.Lists.{at, ◌∈◌}
use Rattle.rules.specs.Passes.{Crossing}

-- the pairs of n cells are numbers below this
abbrev pub most_pairs : ℕ → ℕ
most_pairs n = 4 * n

-- the lesser cell of pair p, and the place of the greater one in its window
abbrev pub lesser_of : ℕ → ℕ
lesser_of p = p / 4

abbrev pub place_in : ℕ → ℕ
place_in p = 5 + p % 4

-- the greater cell, on a tile w wide
abbrev pub greater_of : (w p : ℕ) → ℕ
greater_of w p = lesser_of p + place_in p / 3 * w + place_in p % 3 - (w + 1)

-- the pair as a crossing (rule 3)
abbrev pub crossing_of : (w p : ℕ) → Crossing
crossing_of w p = record { lesser = lesser_of p; greater = greater_of w p }

-- the height of its crossing
abbrev pub pair_height : (w : ℕ) (heights : List ℕ) → ℕ → ℕ
pair_height w heights p = max (at heights (lesser_of p)) (at heights (greater_of w p))

-- height and pair in one number: rule 3's order (PairOrder)
abbrev pub pair_key : (w : ℕ) (heights : List ℕ) → ℕ → ℕ
pair_key w heights p = pair_height w heights p * most_pairs 4096 + p

-- p says two cells of one window, on a tile of n cells
abbrev pub IsPair : (w n p : ℕ) → Type 0
IsPair w n p = Stands w n (lesser_of p) (place_in p) (greater_of w p)

-- all numbers of a list do
abbrev pub Pairs : (w n : ℕ) → List ℕ → Type 0
Pairs w n pairs = (p : ℕ) → p ∈ pairs → IsPair w n p
