-- Demand 3 of six lists, wherever they stand: lent lists after a call, or the lists of a record that it left. Its ways run over the neighbours
-- that are asked for.
-- Assumes nothing.
use Rattle.std.specs.Prelude.{◌≡◌, ℤ, take}
use Rattle.rules.specs.Demand3.{Demand3}
use Rattle.rules.specs.Ground.{cells_of, Ground}
use Rattle.rules.specs.Land.{land_by}
use Rattle.rules.specs.Network.{Network, network_of}
use Rattle.rules.specs.Way.{Drains}
use Rattle.grid.specs.declared.Neighbours.{Neighbours}

-- the first N receivers have what demand 3 asks, and the levels and the drainage that it speaks of are those that stand in the lists:
-- the first N levels and the first N entries of drainage are those of these receivers. And they drain: each cell has an entry, and an
-- outlet's is its own number, so that the list alone tells where a way ends
pub record LeftDemand3 (N : Neighbours) (g : Ground) (s : Network ℤ) : Type 0 where
  pub demands : Demand3 (land_by N g) g.water (take (cells_of g) s.receivers)
  pub levels_left : take (cells_of g) s.levels ≡ (network_of (land_by N g) g.water (take (cells_of g) s.receivers)).levels
  pub drainage_left : take (cells_of g) s.drainage ≡ (network_of (land_by N g) g.water (take (cells_of g) s.receivers)).drainage
  pub drains : Drains (land_by N g) (take (cells_of g) s.receivers)
