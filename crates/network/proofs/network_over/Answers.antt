-- `network::network_over` meets its contract: only an accepted tile is worked out, and all of it.
-- Assumes nothing.
use mathlib.Core.Path.{sym, ◌∙◌}
use Prim.Native.Nat.{◌*◌, ◌+◌}
use native.Mathlib.Omega.{arith}
use borrow.Author.Tests.{leb-true}
use Rattle.ground.proofs.Acceptance.{lists_accepted}
use Rattle.ground.specs.Record.{ground_of_lists}
use Rattle.network.specs.Call.{network_holds}
use Rattle.rules.proofs.SixLists.{shortest_holds}
use Rattle.rules.specs.Ground.{cells_of}
use Rattle.rules.specs.SixLists.{shortest, six_lists}
use Rattle.network.proofs.network_over.Goals as goal

pub fill-requires : goal.fill-requires
fill-requires c =
    let a = c.args in
    let g = ground_of_lists a.width a.height a.heights.now a.marks.now a.water.now in
    let before = six_lists a.receivers.now a.basins.now a.order.now a.levels.now a.drainage.now a.wet.now in
    let A = lists_accepted (network_holds before) g (sym (rw c.shortest_length.ensures at c.judge_lists.ensures) ∙ c.in_ok-size.was) in
    let n = cells_of g in
    let room = leb-true (1 * n + 0) (shortest before) A.roomy in
    (A.good, shortest_holds n before (omega arith))
