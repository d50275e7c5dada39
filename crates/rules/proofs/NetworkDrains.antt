-- The network of a ground with some width and an outlet, over the neighbours and in the manner asked for: it drains, however large it is, has
-- what demand 3 asks, and is what rules 7 to 10 give over its receivers.
-- Assumes nothing.
use mathlib.Core.Bool.{true≢false}
use mathlib.Core.Path.{ap, ◌≡◌}
use Rattle.rules.proofs.Demand3Holds.{demand_3, ground_lawful}
use Rattle.rules.proofs.Manners.{manner_drains, manner_network, manner_sound}
use Rattle.rules.specs.Demand3.{Demand3}
use Rattle.rules.specs.Ground.{Drainable, Ground}
use Rattle.rules.specs.Land.{land_by}
use Rattle.rules.specs.Network.{drop_levels, lifted_network_in, network_by, network_of, receivers_by}
use Rattle.rules.specs.Way.{Drains}
use Rattle.grid.specs.declared.Neighbours.{Neighbours}
use Rattle.rules.specs.declared.Manner.{Manner}

-- no cell of a ground is a hole
pub network_drains : (N : Neighbours) (M : Manner) (g : Ground) → Drainable g → Drains (land_by N g) (network_by N M g).receivers
unfolding network_by lifted_network_in
network_drains N M g o = manner_drains M (land_by N g) (ground_lawful N g o) (λ c s. absurd (true≢false s))

pub tile_demand_3 : (N : Neighbours) (M : Manner) (g : Ground) → Drainable g → Demand3 (land_by N g) g.water (network_by N M g).receivers
unfolding network_by lifted_network_in
tile_demand_3 N M g o = demand_3 (land_by N g) (receivers_by M (land_by N g)) (manner_sound M (land_by N g) (ground_lawful N g o)) g.water

-- and its levels are those of its receivers
pub network_of_lem : (N : Neighbours) (M : Manner) (g : Ground) → Drainable g
    → network_by N M g ≡ network_of (land_by N g) g.water (receivers_by M (land_by N g))
unfolding network_by network_of
network_of_lem N M g o = ap drop_levels (manner_network M (land_by N g) (ground_lawful N g o) g.water)
