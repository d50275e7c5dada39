-- What the calls with a count and a manner leave of a tile that they accept, over the neighbours and in the manner asked for: demand 3, the
-- trace, rule 10; and levels with 8 are nowhere above those with 4, in whatever manners.
-- Assumes nothing.
use mathlib.Core.List.{List}
use mathlib.Core.Path.{◌≡◌}
use Prim.Native.Nat.{ℕ}
use lib.IntN.{ℤ}
use Rattle.ground.specs.Judge.{Accepted, judge_lists, Judged}
use Rattle.ground.specs.Record.{ground_of_record}
use Rattle.lists.specs.Lists.{Below}
use Rattle.network.proofs.LeftDemand3.{call_demand_3, call_traced}
use Rattle.network.proofs.LeftWet.{call_wet}
use Rattle.network.proofs.NowhereAbove.{call_nowhere_above}
use Rattle.network.specs.Call.{left, network_holds, OutcomeBy}
use Rattle.network_by.proofs.Counts.{asked_numbers, tile_over}
use Rattle.network_by.specs.Calls.{ListsCounted, RecordCounted}
use Rattle.network_by.specs.Counted.{asked_for, For, manner_number, Tile}
use Rattle.network_bytes.specs.ReadNetwork.{network_in}
use Rattle.network_record.proofs.LeftDemand3.{record_call_demand_3, record_call_traced}
use Rattle.network_record.proofs.LeftWet.{record_call_wet}
use Rattle.network_record.proofs.NowhereAbove.{record_call_nowhere_above}
use Rattle.network_record.specs.RecordCall.{CalledBy, judgement, left_record_by}
use Rattle.rules.specs.Ground.{Ground}
use Rattle.rules.specs.Left.{LeftDemand3}
use Rattle.rules.specs.LeftTrace.{LeftTraced}
use Rattle.rules.specs.LeftWet.{LeftWet}
use Rattle.rules.specs.MoreNeighbours.{NowhereAbove}
use Rattle.rules.specs.Network.{Network, network_by}
use Rattle.grid.specs.declared.Neighbours.{Neighbours}
use Rattle.grid.specs.declared.Neighbours.TheVariants.{Eight, Four}
use Rattle.rules.specs.declared.Manner.{Manner}

-- an outcome of a call with a count and a manner is one of the call over these neighbours and in this manner
module _ (count manner : ℕ) (N : Neighbours) (M : Manner) (e : asked_for count manner ≡ For N M) where
  lists_over : (g : Ground) (before : Network ℤ) {j : Judged} {after : Network ℤ} → ListsCounted count manner g before (Tile j) after
      → OutcomeBy N M g before j after
  lists_over g before {j} = tile_over count manner (judge_lists (network_holds before) g) (λ N M j. left j (network_by N M g) before) before N M {j = j} e

  record-over : (ground lent : List ℕ) {j : Judged} {after : List ℕ} → RecordCounted count manner ground lent (Tile j) after
      → CalledBy N M ground lent j after
  record-over ground lent {j} = tile_over count manner (judgement ground lent) (λ N M. left_record_by N M ground lent) lent N M {j = j} e

  module _ (g : Ground) (before : Network ℤ) {w h : ℕ} {after : Network ℤ} (o : ListsCounted count manner g before (Tile (Accepted w h)) after) where
    pub lists_demand_3 : LeftDemand3 N g after
    lists_demand_3 = call_demand_3 N M g before (lists_over g before {j = Accepted w h} o)

    pub lists_traced : LeftTraced N g after
    lists_traced = call_traced N M g before (lists_over g before {j = Accepted w h} o)

    pub lists_wet : LeftWet g after
    lists_wet = call_wet N M g before (lists_over g before {j = Accepted w h} o)

  module _ (ground lent : List ℕ) (bytes : Below 256 ground) {w h : ℕ} {after : List ℕ}
      (o : RecordCounted count manner ground lent (Tile (Accepted w h)) after) where
    pub record_demand_3 : LeftDemand3 N (ground_of_record ground) (network_in after w h)
    record_demand_3 = record_call_demand_3 N M ground lent bytes (record-over ground lent {j = Accepted w h} o)

    pub record_traced : LeftTraced N (ground_of_record ground) (network_in after w h)
    record_traced = record_call_traced N M ground lent bytes (record-over ground lent {j = Accepted w h} o)

    pub record_wet : LeftWet (ground_of_record ground) (network_in after w h)
    record_wet = record_call_wet N M ground lent bytes (record-over ground lent {j = Accepted w h} o)

-- levels with 8 and with 4, each in one of the two manners
module _ (M M' : Manner) where
  abbrev these : ℕ
  these = manner_number M

  abbrev those : ℕ
  those = manner_number M'

  pub lists_nowhere_above : (g : Ground) (before before' : Network ℤ) {w h w' h' : ℕ} {after after' : Network ℤ}
      → ListsCounted 8 (manner_number M) g before (Tile (Accepted w h)) after
      → ListsCounted 4 (manner_number M') g before' (Tile (Accepted w' h')) after' → NowhereAbove g after after'
  lists_nowhere_above g before before' {w} {h} {w'} {h'} o o' =
      call_nowhere_above M M' g before before' (lists_over 8 these Eight M (asked_numbers Eight M) g before {j = Accepted w h} o)
      (lists_over 4 those Four M' (asked_numbers Four M') g before' {j = Accepted w' h'} o')

  pub record_nowhere_above : (ground lent lent' : List ℕ) → Below 256 ground → {w h w' h' : ℕ} {after after' : List ℕ}
      → RecordCounted 8 (manner_number M) ground lent (Tile (Accepted w h)) after
      → RecordCounted 4 (manner_number M') ground lent' (Tile (Accepted w' h')) after'
      → NowhereAbove (ground_of_record ground) (network_in after w h) (network_in after' w' h')
  record_nowhere_above ground lent lent' bytes {w} {h} {w'} {h'} o o' =
      record_call_nowhere_above M M' ground lent lent' bytes (record-over 8 these Eight M (asked_numbers Eight M) ground lent {j = Accepted w h} o)
      (record-over 4 those Four M' (asked_numbers Four M') ground lent' {j = Accepted w' h'} o')
