-- Rule 1 as it is said, by how steep the way down to each neighbour is.
-- Assumes nothing.
use Rattle.std.specs.Prelude.{ℕ, ◌<◌, ◌≤◌}
use Rattle.lists.specs.Lists.{◌∈◌}
use Rattle.rules.specs.FirstWays.{lower_neighbours}
use Rattle.rules.specs.Land.{Land}

-- d is the steepest of c's lower neighbours, and of equally steep ones that of the least number; S says how steep the way to each is
pub record Steepest (L : Land) (S : ℕ → ℕ) (c d : ℕ) : Type 0 where
  pub lower : d ∈ lower_neighbours L c
  pub most : (e : ℕ) → e ∈ lower_neighbours L c → S e ≤ S d
  pub first : (e : ℕ) → e ∈ lower_neighbours L c → e < d → S e < S d
