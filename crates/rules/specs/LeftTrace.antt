-- The trace along the receivers of six lists, wherever they stand: lent lists after a call, or the lists of a record that it left.
-- Assumes nothing.
use Rattle.std.specs.Prelude.{true, List, ◌≡◌, ℕ, ◌<◌, ◌≤◌, ℤ, length, take}
use Rattle.lists.specs.Lists.{at, repeat}
use Rattle.rules.specs.Demand3.{inner_cells}
use Rattle.rules.specs.Ground.{cells_of, Ground}
use Rattle.rules.specs.Land.{Land, land_by}
use Rattle.rules.specs.Network.{Network}
use Rattle.rules.specs.Trace.{reached, trace}
use Rattle.grid.specs.declared.Neighbours.{Neighbours}

-- the way from c along r is to an outlet, in at most as many steps as there are cells that aren't outlets. Every budget of at least that many
-- gives this outlet and these steps, and any two such budgets the same answer
pub record TracedOut (L : Land) (r : List ℕ) (c : ℕ) : Type 0 where
  pub steps : ℕ
  pub few_steps : steps ≤ length (inner_cells L)
  pub outlet_reached : L.outlet (repeat steps (at r) c) ≡ true
  pub reaches : (budget : ℕ) → length (inner_cells L) ≤ budget → trace r c budget ≡ reached (repeat steps (at r) c) steps
  pub same : (budget larger : ℕ) → length (inner_cells L) ≤ budget → length (inner_cells L) ≤ larger → trace r c budget ≡ trace r c larger

-- so it is from every cell along the first N receivers
pub record LeftTraced (N : Neighbours) (g : Ground) (s : Network ℤ) : Type 0 where
  pub traced : (c : ℕ) → c < cells_of g → TracedOut (land_by N g) (take (cells_of g) s.receivers) c
