-- The measures and the invariant for `lake_list::nesting::list_groups` and `list_lake`. Between turns of the loop the lakes before lake x are
-- listed, and the others stand as they did (`Walked`). The number of cells falls: a group lacks the cells at the split.
-- Assumes nothing.
use Prim.Native.Nat.{ℕ, ◌*◌, ◌+◌, ◌≤◌}
use mathlib.Core.List.{List}
use lib.ListN.{length}
use Rattle.lake_list.proofs.Turns.{Kept}
use Rattle.lake_list.proofs.Walking.{Walked}
use Rattle.lake_list.specs.Listing.{NotedLakes}
use Rattle.lake_list.proofs.nesting.+list_groups_list_lake.Given as goal

abbrev pub decreases-list_groups : goal.decreases-list_groups
decreases-list_groups l = 2 * length l.cells.now

abbrev pub decreases-list_lake : goal.decreases-list_lake
decreases-list_lake l = 2 * length l.cells.now + 1

abbrev pub invariant-list_groups-loop-x : goal.invariant-list_groups-loop-x
invariant-list_groups-loop-x l =
    (l.x ≤ l.count)
    × Kept l.initial.cells l.cells l.initial.spare l.spare l.initial.ends l.ends l.initial.index l.index l.initial.rows l.rows
    × ((K : NotedLakes l.heights l.flags l.parents l.joins (λ (g : List ℕ). l.level) l.initial.cells l.initial.ends l.count)
    → Walked K l.left l.from l.initial.rows l.cells l.ends l.rows l.x l.next)
