-- `network_bytes::write_trailer` meets its contract: the size, and then the distances.
-- Assumes nothing.
use mathlib.Core.List.{◌++◌}
use mathlib.Core.Path.{refl, ◌≡◌}
use Prim.Native.Nat.{◌*◌, ◌+◌, ◌≤◌}
use native.Mathlib.Omega.{arith}
use lib.ListN.{length}
use Rattle.sections.specs.LittleEndian.{bytes_of}
use Rattle.lists.proofs.Stored.{stored_on}
use Rattle.network_bytes.proofs.Laws.{length-distances}
use Rattle.network_bytes.specs.NetworkRecord.{distances, network_trailer}
use Rattle.network_bytes.proofs.write_trailer.Goals as goal

pub returns : goal.returns
unfolding network_trailer
returns c =
    let a = c.args in
    let p = c.requires in
    let w = bytes_of 2 a.width in
    let h = bytes_of 2 a.height in
    let d = distances (a.height * a.width) in
    let n : c.cells.result ≡ a.height * a.width = c.cells.ensures.0 in
    let l : a.from + 4 + length d ≤ length a.bytes.now = rw (length-distances (a.height * a.width)) (omega arith) in
    let size =
    stored_on w h a.bytes.now a.from (a.from + 2) refl (omega arith) c.write.ensures c.write-2.ensures in
    stored_on (w ++ h) d a.bytes.now a.from (a.from + 4) refl l size (rw (← n) c.write_distances.ensures)
