-- Demand 3 holds of the six lists in the lent record that the record call, as a result and for C, leaves of any accepted ground record; and
-- a trace along the receivers there reaches the outlet.
-- Assumes nothing.
use mathlib.Core.List.{List}
use Prim.Native.Nat.{ℕ, ◌<◌}
use Rattle.network_record.proofs.AcceptedCalls.{c_call_holds, record_call_accepted, record_call_first}
use Rattle.network_record.specs.RecordCall.{CalledBy, CalledFromCBy}
use Rattle.ground.proofs.Acceptance.{good_few}
use Rattle.ground.specs.Good.{Good}
use Rattle.ground.specs.Record.{ground_of_record}
use Rattle.lists.specs.Lists.{Below}
use Rattle.network.proofs.Grounds.{good_drainable}
use Rattle.network_bytes.specs.ReadNetwork.{network_in}
use Rattle.rules.proofs.LeftDemand3.{left_demand_3, left_traced}
use Rattle.rules.specs.Ground.{Ground}
use Rattle.rules.specs.Left.{LeftDemand3}
use Rattle.rules.specs.LeftTrace.{LeftTraced}
use Rattle.grid.specs.declared.Neighbours.{Neighbours}
use Rattle.rules.specs.declared.Manner.{Manner}
use Rattle.ground.specs.Judge.{Accepted}

-- any outcome of the record call that accepts a ground record of bytes, with the width and the height that it answers
module _ (N : Neighbours) (M : Manner) (ground lent : List ℕ) (bytes : Below 256 ground) {w h : ℕ} {after : List ℕ}
    (o : CalledBy N M ground lent (Accepted w h) after) where
  abbrev g : Ground
  g = ground_of_record ground

  good : Good (ground_of_record ground)
  good = (record_call_accepted N M ground lent bytes o).good

  pub record_call_demand_3 : LeftDemand3 N (ground_of_record ground) (network_in after w h)
  record_call_demand_3 = left_demand_3 N M g (good_drainable g good) (network_in after w h) (record_call_first N M ground lent bytes o)

  -- and a trace along the receivers reaches the outlet
  pub record_call_traced : LeftTraced N (ground_of_record ground) (network_in after w h)
  record_call_traced = left_traced N g (network_in after w h) record_call_demand_3 (good_few g good)

-- the same of what the C call leaves, where its answer is a length
module _ (N : Neighbours) (M : Manner) (ground lent : List ℕ) (bytes : Below 256 ground) {answer : ℕ} {after : List ℕ}
    (o : CalledFromCBy N M ground lent answer after) (length-answered : answer < 65536) where
  pub c_call_demand_3 : LeftDemand3 N (ground_of_record ground) (network_in after (ground_of_record ground).width (ground_of_record ground).height)
  c_call_demand_3 =
      c_call_holds N M ground lent bytes o length-answered (LeftDemand3 N (ground_of_record ground))
      (λ w h called. record_call_demand_3 N M ground lent bytes called)

  pub c_call_traced : LeftTraced N (ground_of_record ground) (network_in after (ground_of_record ground).width (ground_of_record ground).height)
  c_call_traced =
      c_call_holds N M ground lent bytes o length-answered (LeftTraced N (ground_of_record ground))
      (λ w h called. record_call_traced N M ground lent bytes called)
