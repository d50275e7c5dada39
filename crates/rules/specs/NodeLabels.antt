-- Labels that tell the nodes of rule 4 apart: what code goes by in the place of singular cells.
-- Assumes nothing.
use Rattle.std.specs.Prelude.{cond, List, ◌≡◌, ℕ, ◌<◌}
use Rattle.lists.specs.Lists.{at}
use Rattle.rules.specs.FirstWays.{basin, singular_of}
use Rattle.rules.specs.Land.{Land}
use Rattle.rules.specs.Passes.{node}

-- the label of a cell: the number of its basin, and one number for all outlet basins, which no basin has
unfoldable pub label_of : Land → ℕ → ℕ
label_of L c = cond (L.outlet (singular_of L c)) L.cells (basin L c)

-- two cells have one label exactly if their basins are one node
pub record Labelled (L : Land) (labels : List ℕ) : Type 0 where
  pub same : (c d : ℕ) → c < L.cells → d < L.cells → at labels c ≡ at labels d → node L c ≡ node L d
  pub told : (c d : ℕ) → c < L.cells → d < L.cells → node L c ≡ node L d → at labels c ≡ at labels d
