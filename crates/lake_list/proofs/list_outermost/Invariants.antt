-- `lake_list::list_outermost` meets its contract: the walk of `list_groups`, with the level of each lake's first cell. It ends at the first
-- lake that is too deep, or with all of them listed.
-- Assumes nothing.
use Prim.Native.Nat.{◌-◌, ◌≤◌}
use Rattle.lake_list.proofs.Turns.{Kept}
use Rattle.lake_list.proofs.Walking.{Walked}
use Rattle.lake_list.specs.Listing.{NotedLakes}
use Rattle.lake_rules.specs.Lakes.{level_of}
use Rattle.lake_list.proofs.list_outermost.Given as goal

abbrev pub invariant-loop-x : goal.invariant-loop-x
invariant-loop-x l =
    (l.x ≤ l.count) × Kept l.initial.cells l.cells l.initial.spare l.spare l.initial.ends l.ends l.initial.index l.index l.initial.rows l.rows
    × ((K : NotedLakes l.heights l.flags l.parents l.joins (level_of l.levels) l.initial.cells l.initial.ends l.count) → Walked K 64 0 l.initial.rows
    l.cells l.ends l.rows l.x l.next)

abbrev pub decreases-loop-x : goal.decreases-loop-x
decreases-loop-x l =
    l.count - l.x
