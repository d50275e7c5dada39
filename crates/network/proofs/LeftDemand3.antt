-- Demand 3 holds of what a network call leaves in the lent lists of any accepted tile, and a trace along the receivers that it leaves
-- reaches the outlet.
-- Assumes nothing.
use Prim.Native.Nat.{ℕ}
use lib.IntN.{ℤ}
use Rattle.ground.proofs.Acceptance.{good_few}
use Rattle.ground.specs.Good.{Good}
use Rattle.network.proofs.AcceptedCalls.{call_accepted, call_network}
use Rattle.network.proofs.Grounds.{good_drainable}
use Rattle.network.specs.Call.{OutcomeBy}
use Rattle.rules.proofs.LeftDemand3.{left_demand_3, left_traced}
use Rattle.rules.specs.Ground.{Ground}
use Rattle.rules.specs.Left.{LeftDemand3}
use Rattle.rules.specs.LeftTrace.{LeftTraced}
use Rattle.rules.specs.Network.{Network}
use Rattle.grid.specs.declared.Neighbours.{Neighbours}
use Rattle.rules.specs.declared.Manner.{Manner}
use Rattle.ground.specs.Judge.{Accepted}

-- any outcome of a tile that is accepted
module _ (N : Neighbours) (M : Manner) (g : Ground) (before : Network ℤ) {w h : ℕ} {after : Network ℤ} (o : OutcomeBy N M g before (Accepted w h) after) where
  good : Good g
  good = (call_accepted N M g before o).good

  pub call_demand_3 : LeftDemand3 N g after
  call_demand_3 = left_demand_3 N M g (good_drainable g good) after (call_network N M g before o)

  -- and a trace along the receivers reaches the outlet
  pub call_traced : LeftTraced N g after
  call_traced = left_traced N g after call_demand_3 (good_few g good)
