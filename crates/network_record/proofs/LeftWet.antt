-- Rule 10 in the signed numbers of the records: it holds of the six lists in the lent record that the record call, as a result and for C,
-- leaves of any accepted ground record.
-- Assumes nothing.
use mathlib.Core.List.{List}
use Prim.Native.Nat.{ℕ, ◌<◌}
use Rattle.network_record.proofs.AcceptedCalls.{c_call_holds, record_call_accepted, record_call_first}
use Rattle.network_record.specs.RecordCall.{CalledBy, CalledFromCBy}
use Rattle.ground.specs.Record.{ground_of_record}
use Rattle.lists.specs.Lists.{Below}
use Rattle.network.proofs.LeftWet.{good_wet}
use Rattle.network_bytes.specs.ReadNetwork.{network_in}
use Rattle.rules.specs.LeftWet.{LeftWet}
use Rattle.grid.specs.declared.Neighbours.{Neighbours}
use Rattle.rules.specs.declared.Manner.{Manner}
use Rattle.ground.specs.Judge.{Accepted}

pub record_call_wet : (N : Neighbours) (M : Manner) (ground lent : List ℕ) → Below 256 ground → {w h : ℕ} {after : List ℕ}
    → CalledBy N M ground lent (Accepted w h) after → LeftWet (ground_of_record ground) (network_in after w h)
record_call_wet N M ground lent bytes {w} {h} {after} o =
    good_wet N M (ground_of_record ground) (record_call_accepted N M ground lent bytes o).good (network_in after w h)
    (record_call_first N M ground lent bytes o)

-- the same of what the C call leaves, where its answer is a length
pub c_call_wet : (N : Neighbours) (M : Manner) (ground lent : List ℕ) → Below 256 ground → {answer : ℕ} {after : List ℕ}
    → CalledFromCBy N M ground lent answer after → answer < 65536
    → LeftWet (ground_of_record ground) (network_in after (ground_of_record ground).width (ground_of_record ground).height)
c_call_wet N M ground lent bytes o length-answered =
    c_call_holds N M ground lent bytes o length-answered (LeftWet (ground_of_record ground)) (λ w h called. record_call_wet N M ground lent bytes called)
