-- Levels with 8 neighbours are nowhere above those with 4 (W-203), in the records that two calls, in whatever manners, leave of one accepted
-- ground record.
-- Assumes nothing.
use mathlib.Core.List.{List}
use Prim.Native.Nat.{ℕ}
use Rattle.ground.specs.Record.{ground_of_record}
use Rattle.lists.specs.Lists.{Below}
use Rattle.network.proofs.NowhereAbove.{good_nowhere_above}
use Rattle.network_bytes.specs.ReadNetwork.{network_in}
use Rattle.network_record.proofs.AcceptedCalls.{record_call_accepted, record_call_first}
use Rattle.network_record.specs.RecordCall.{CalledBy}
use Rattle.rules.specs.MoreNeighbours.{NowhereAbove}
use Rattle.grid.specs.declared.Neighbours.TheVariants.{Eight, Four}
use Rattle.rules.specs.declared.Manner.{Manner}
use Rattle.ground.specs.Judge.{Accepted}

pub record_call_nowhere_above : (M M' : Manner) (ground lent lent' : List ℕ) → Below 256 ground → {w h w' h' : ℕ} {after after' : List ℕ}
    → CalledBy Eight M ground lent (Accepted w h) after → CalledBy Four M' ground lent' (Accepted w' h') after'
    → NowhereAbove (ground_of_record ground) (network_in after w h) (network_in after' w' h')
record_call_nowhere_above M M' ground lent lent' bytes {w} {h} {w'} {h'} {after} {after'} o o' =
    good_nowhere_above M M' (ground_of_record ground) (record_call_accepted Eight M ground lent bytes o).good (network_in after w h)
    (network_in after' w' h') (record_call_first Eight M ground lent bytes o) (record_call_first Four M' ground lent' bytes o')
