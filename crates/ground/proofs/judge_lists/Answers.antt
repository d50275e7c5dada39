-- `ground::judge_lists` meets its contract: the tests on the way are the table's, in its order.
-- Assumes nothing.
use mathlib.Core.Bool.{true}
use mathlib.Core.Path.{refl, sym, ◌∙◌, ◌≡◌}
use Prim.Native.Nat.{◌*◌, ◌≤◌}
use Rattle.ground.proofs.Judging.{cells_decide, judged_cells, refused_length, refused_room, refused_size}
use Rattle.ground.proofs.SizedLists.{full, sized}
use Rattle.ground.specs.Judge.{judge_lists, lists_full, size_allowed}
use Rattle.ground.specs.Record.{ground_of_lists}
use Rattle.ground.specs.Rooms.{room_for}
use Rattle.rules.specs.Ground.{Ground}
use Rattle.ground.proofs.judge_lists.Goals as goal
use Rattle.ground.proofs.judge_lists.Goals.{After-cells-n, Else-not-has_room, Else-not-lists_full, Else-not-size_allowed, Start}

-- the ground of the lists
abbrev ground : Start → Ground
ground c = let a = c.args in ground_of_lists a.width a.height a.heights.now a.marks.now a.water.now

-- the size is allowed past the first test, and then there are at most 4,096 cells
size-held : (c : Else-not-size_allowed) → let a = c.args in size_allowed a.width a.height ≡ true
size-held c = sym c.size_allowed.ensures ∙ c.if-not-size_allowed.false

count_few : (c : After-cells-n) → c.cells-n.result ≤ 4096
count_few c =
    let a = c.args in
    rw c.cells-n.ensures (sized a.width a.height (size-held (goal.at.After-cells-n c).Else-not-size_allowed)).few

-- the lists are full past the second test, and there is room past the third
full-held : (c : Else-not-lists_full)
    → let a = c.args in
    lists_full a.heights.now a.marks.now a.water.now (a.height * a.width) ≡ true
full-held c = rw c.cells-n.ensures at (sym c.lists_full.ensures ∙ c.if-not-lists_full.false)

room_held : (c : Else-not-has_room)
    → let a = c.args in
    room_for a.room.each a.room.fixed a.room.len (a.height * a.width) ≡ true
room_held c =
    let n = c.cells-n.ensures in
    rw n at (sym c.has_room.ensures ∙ c.if-not-has_room.false)

pub returns-then-not-size_allowed : goal.returns-then-not-size_allowed
unfolding judge_lists
returns-then-not-size_allowed c =
    refused_size _ _ _ _ (sym c.size_allowed.ensures ∙ c.if-not-size_allowed.true)

pub returns-then-not-lists_full : goal.returns-then-not-lists_full
unfolding judge_lists
returns-then-not-lists_full c =
    let e = rw c.cells-n.ensures at (sym c.lists_full.ensures ∙ c.if-not-lists_full.true) in
    refused_length _ _ _ _ (size-held (goal.at.returns-then-not-lists_full c).Else-not-size_allowed) e

pub has_room-requires : goal.has_room-requires
has_room-requires c = count_few (goal.at.has_room-requires c).After-cells-n

pub returns-then-not-has_room : goal.returns-then-not-has_room
unfolding judge_lists
returns-then-not-has_room c =
    let n = c.cells-n.ensures in
    let e = rw n at (sym c.has_room.ensures ∙ c.if-not-has_room.true) in
    refused_room _ _ _ _ (size-held (goal.at.returns-then-not-has_room c).Else-not-size_allowed)
    (full-held (goal.at.returns-then-not-has_room c).Else-not-lists_full) refl e

pub judge_cells_of_lists-requires : goal.judge_cells_of_lists-requires
judge_cells_of_lists-requires c =
    let a = c.args in
    let z = sized a.width a.height (size-held (goal.at.judge_cells_of_lists-requires c).Else-not-size_allowed) in
    let f = full a.heights.now a.marks.now a.water.now (a.height * a.width) (full-held (goal.at.judge_cells_of_lists-requires c).Else-not-lists_full) in
    (z.narrow, z.low, f.heights_full, f.marks_full)

pub returns : goal.returns
unfolding judge_lists
returns c =
    let e = c.judge_cells_of_lists.ensures ∙ cells_decide (ground (goal.at.returns c).Start) in
    judged_cells _ _ _ _ (size-held (goal.at.returns c).Else-not-size_allowed) (full-held (goal.at.returns c).Else-not-lists_full) refl
    (room_held (goal.at.returns c).Else-not-has_room) e
