-- Samples of the fewest steps: on three rows of four cells, from cell 0, through neighbours with the same label.
-- Assumes nothing.
use Rattle.std.specs.Prelude.{Bool, ◌||◌, [], List, ◌∷◌, refl, ◌≡◌, ℕ, eqb}
use Rattle.grid.specs.Window.{around, beside, sides}
use Rattle.lists.specs.Lists.{at, tab}
use Rattle.spread.specs.Steps.{alike, fewest, none, within}

-- 7 7 5 7
-- 5 7 5 7
-- 7 5 7 7
abbrev labels : List ℕ
labels = 7 ∷ 7 ∷ 5 ∷ 7 ∷ 5 ∷ 7 ∷ 5 ∷ 7 ∷ 7 ∷ 5 ∷ 7 ∷ 7 ∷ []

abbrev counted : (places : List ℕ) (marked : ℕ → Bool) → List ℕ
counted places marked = tab 12 (fewest 12 (alike (beside places 4) (at labels)) marked)

-- by the sides only the cells below and to the right are reached
pub by_sides_fact : counted sides (eqb 0)
    ≡ 0 ∷ 1 ∷ none ∷ none ∷ none ∷ 2 ∷ none ∷ none ∷ none ∷ none ∷ none ∷ none ∷ []
unfolding fewest within
by_sides_fact = refl

-- the corners lead on to all cells with this label, and nothing to the others: none of them is marked
pub by_corners_fact : counted around (eqb 0)
    ≡ 0 ∷ 1 ∷ none ∷ 4 ∷ none ∷ 1 ∷ none ∷ 3 ∷ 2 ∷ none ∷ 2 ∷ 3 ∷ []
unfolding fewest within
by_corners_fact = refl

-- with cell 3 marked too the nearer of the two counts, and cell 2 counts for the other label
pub from_three : counted around (λ c. eqb c 0 || (eqb c 3 || eqb c 2))
    ≡ 0 ∷ 1 ∷ 0 ∷ 0 ∷ 3 ∷ 1 ∷ 1 ∷ 1 ∷ 2 ∷ 2 ∷ 2 ∷ 2 ∷ []
unfolding fewest within
from_three = refl
