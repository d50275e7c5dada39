-- The pairs of the chosen passes (rule 4), picked from pairs that are enough crossings in order. `cross` reads a pair as a crossing.
-- Assumes nothing.
use Rattle.std.specs.Prelude.{Bool, ◌&&◌, List, map, ◌≡◌, ℕ, ◌<◌, ◌≤◌, eqb, length, take}
use Rattle.lists.specs.Lists.{any, at, keep}
use Rattle.rules.specs.Enough.{Enough}
use Rattle.rules.specs.Land.{Land}
use Rattle.rules.specs.NodeLabels.{Labelled}
use Rattle.rules.specs.Passes.{chosen, Crossing}

-- the crossing is a chosen pass
unfoldable pub is_chosen : Land → Crossing → Bool
is_chosen L x = any (λ (y : Crossing). eqb y.lesser x.lesser && eqb y.greater x.greater) (chosen L)

-- labels of a land's cells, and pairs that are enough of its crossings in order
pub record Pickable (cross : ℕ → Crossing) (L : Land) (labels list : List ℕ) : Type 0 where
  pub cells : length labels ≡ L.cells
  pub few : length labels ≤ 4096
  pub small : (c : ℕ) → c < length labels → at labels c ≤ 4096
  pub labelled : Labelled L labels
  pub enough : Enough L (map cross list)

-- the first m entries are the pairs of the chosen passes, in the list's order
pub record Picked (cross : ℕ → Crossing) (L : Land) (list list' : List ℕ) (m : ℕ) : Type 0 where
  pub within : m ≤ length list
  pub kept : take m list' ≡ keep (λ p. is_chosen L (cross p)) list
