-- `ground::judge_sized` meets its contract: the tests on the way are the table's, in its order.
-- Assumes nothing.
use mathlib.Core.Bool.{true}
use mathlib.Core.Path.{sym, ◌∙◌, ◌≡◌}
use Prim.Native.Nat.{◌*◌, ◌+◌, ◌≤◌}
use native.Mathlib.Omega.{arith}
use lib.Dec.{eqb}
use lib.ListN.{length}
use borrow.Author.Tests.{eq-eqb, eqb-true, ne_eqb}
use Rattle.ground.proofs.Judging.{judged_cells, refused_distance, refused_length, refused_room, refused_size}
use Rattle.ground.proofs.SizedLists.{sized}
use Rattle.ground.specs.Judge.{size_allowed}
use Rattle.ground.specs.Record.{distances_right}
use Rattle.ground.specs.Rooms.{room_for}
use Rattle.ground.proofs.judge_sized.Goals as goal
use Rattle.ground.proofs.judge_sized.Goals.{After-cells-n, Else-bytes-n, Else-not-distances_right, Else-not-has_room, Else-not-size_allowed}

-- the size is allowed past the first test, and then there are at most 4,096 cells
size-held : (c : Else-not-size_allowed) → let a = c.args in size_allowed a.width a.height ≡ true
size-held c = sym c.size_allowed.ensures ∙ c.if-not-size_allowed.false

count_few : (c : After-cells-n) → c.cells-n.result ≤ 4096
count_few c =
    let a = c.args in
    rw c.cells-n.ensures (sized a.width a.height (size-held (goal.at.After-cells-n c).Else-not-size_allowed)).few

-- the length is right past the second test, the distances past the third, and there is room past the fourth
long-held : (c : Else-bytes-n)
    → let a = c.args in
    eqb (length a.bytes.now) (7 * (a.height * a.width) + 16) ≡ true
long-held c =
    let a = c.args in
    let n = c.cells-n.ensures in
    eq-eqb (length a.bytes.now) (7 * (a.height * a.width) + 16) (omega arith)

right-held : (c : Else-not-distances_right)
    → let a = c.args in
    distances_right a.bytes.now (a.height * a.width) ≡ true
right-held c =
    rw c.cells-n.ensures at (sym c.distances_right.ensures ∙ c.if-not-distances_right.false)

room_held : (c : Else-not-has_room)
    → let a = c.args in
    room_for a.room.each a.room.fixed a.room.len (a.height * a.width) ≡ true
room_held c =
    let n = c.cells-n.ensures in
    rw n at (sym c.has_room.ensures ∙ c.if-not-has_room.false)

pub returns-then-not-size_allowed : goal.returns-then-not-size_allowed
returns-then-not-size_allowed c = refused_size _ _ _ _ (sym c.size_allowed.ensures ∙ c.if-not-size_allowed.true)

pub overflow_mul-n : goal.overflow_mul-n
overflow_mul-n c = omega (arith, count_few (goal.at.overflow_mul-n c).After-cells-n)

pub overflow_add-n : goal.overflow_add-n
overflow_add-n c = omega (arith, count_few (goal.at.overflow_add-n c).After-cells-n)

pub returns-then-bytes-n : goal.returns-then-bytes-n
returns-then-bytes-n c =
    let a = c.args in
    let n = c.cells-n.ensures in
    let e = ne_eqb (length a.bytes.now) (7 * (a.height * a.width) + 16) (λ e. c.if-bytes-n.true (omega arith)) in
    refused_length _ _ _ _ (size-held (goal.at.returns-then-bytes-n c).Else-not-size_allowed) e

pub distances_right-requires : goal.distances_right-requires
distances_right-requires c = omega (arith, count_few (goal.at.distances_right-requires c).After-cells-n)

pub returns-then-not-distances_right : goal.returns-then-not-distances_right
returns-then-not-distances_right c =
    let n = c.cells-n.ensures in
    let e = rw n at (sym c.distances_right.ensures ∙ c.if-not-distances_right.true) in
    refused_distance _ _ _ _ (size-held (goal.at.returns-then-not-distances_right c).Else-not-size_allowed)
    (long-held (goal.at.returns-then-not-distances_right c).Else-bytes-n) e

pub has_room-requires : goal.has_room-requires
has_room-requires c = count_few (goal.at.has_room-requires c).After-cells-n

pub returns-then-not-has_room : goal.returns-then-not-has_room
returns-then-not-has_room c =
    let n = c.cells-n.ensures in
    let e = rw n at (sym c.has_room.ensures ∙ c.if-not-has_room.true) in
    refused_room _ _ _ _ (size-held (goal.at.returns-then-not-has_room c).Else-not-size_allowed)
    (long-held (goal.at.returns-then-not-has_room c).Else-bytes-n) (right-held (goal.at.returns-then-not-has_room c).Else-not-distances_right) e

pub judge_cells_of_record-requires : goal.judge_cells_of_record-requires
judge_cells_of_record-requires c =
    let a = c.args in
    let z = sized a.width a.height (size-held (goal.at.judge_cells_of_record-requires c).Else-not-size_allowed) in
    let l = eqb-true (length a.bytes.now) (7 * (a.height * a.width) + 16) (long-held (goal.at.judge_cells_of_record-requires c).Else-bytes-n) in
    (z.narrow, z.low, l)

pub returns : goal.returns
returns c =
    let allowed = size-held (goal.at.returns c).Else-not-size_allowed in
    let long = long-held (goal.at.returns c).Else-bytes-n in
    judged_cells _ _ _ _ allowed long (right-held (goal.at.returns c).Else-not-distances_right) (room_held (goal.at.returns c).Else-not-has_room)
    c.judge_cells_of_record.ensures
