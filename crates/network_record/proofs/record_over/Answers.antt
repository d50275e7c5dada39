-- `network_record::record_over` meets its contract: only an accepted record is worked out, and all of it.
-- Assumes nothing.
use mathlib.Core.Path.{ap, sym, ◌∙◌}
use Prim.Native.Nat.{◌*◌}
use lib.ListN.{length}
use borrow.Author.Tests.{leb-true}
use Rattle.network_record.specs.RecordCall.{network_record_by, room_of}
use Rattle.ground.proofs.Acceptance.{record_accepted}
use Rattle.lists.specs.Lists.{overwrite}
use Rattle.network_bytes.specs.NetworkRecord.{network_bytes}
use Rattle.record_stages.proofs.Accepted.{named_ground, readable_here, roomy_here}
use Rattle.rules.specs.Ground.{Ground}
use Rattle.network_record.proofs.record_over.Goals as goal

pub write_accepted-requires : goal.write_accepted-requires
write_accepted-requires c =
    let a = c.args in
    let s = a.ground.now in
    let w = c.in_ok-size.size.width in
    let h = c.in_ok-size.size.height in
    let room = room_of a.network.now in
    let A = record_accepted room s (sym c.judge_record.ensures ∙ c.in_ok-size.was) in
    record {
      readable = readable_here room s w h A;
      width_in_bounds = leb-true (network_bytes (h * w)) (length a.network.now) (roomy_here room s w h A);
    }

pub returns : goal.returns
returns c =
    let a = c.args in
    let size = c.in_ok-size.size in
    let room = room_of a.network.now in
    let told = sym c.judge_record.ensures ∙ c.in_ok-size.was in
    let e = named_ground room a.ground.now size.width size.height (record_accepted room a.ground.now told) in
    record {
      answer = sym told;
      lists = c.write_accepted.ensures ∙ ap (λ (k : Ground). overwrite (network_record_by a.neighbours a.manner k) a.network.now) e;
    }
