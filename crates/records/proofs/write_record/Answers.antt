-- `records::write_record` meets its contract: only accepted lists are written.
-- Assumes nothing.
use mathlib.Core.Path.{sym, ◌∙◌}
use Prim.Native.Nat.{◌*◌, ◌+◌}
use lib.ListN.{length}
use borrow.Author.Tests.{leb-true}
use Rattle.ground.proofs.Acceptance.{lists_accepted}
use Rattle.ground.specs.Record.{ground_of_lists}
use Rattle.ground.specs.Rooms.{record_holds}
use Rattle.records.proofs.write_record.Goals as goal

pub write_sections-requires : goal.write_sections-requires
write_sections-requires c =
    let a = c.args in
    let f = lists_accepted (record_holds a.bytes.now) (ground_of_lists a.width a.height a.heights.now a.marks.now a.water.now)
    (sym c.judge_lists.ensures ∙ c.in_ok-size.was) in
    (f.good, leb-true (7 * (a.height * a.width) + 16) (length a.bytes.now) f.roomy)
