-- `network_bytes::write_distances` meets its contract: six numbers, one after the other.
-- Assumes nothing.
use mathlib.Core.List.{◌++◌}
use mathlib.Core.Path.{refl}
use Prim.Native.Nat.{◌*◌, ◌+◌}
use native.Mathlib.Omega.{arith}
use Rattle.sections.specs.LittleEndian.{bytes_of}
use Rattle.lists.proofs.Stored.{stored_on}
use Rattle.network_bytes.specs.NetworkRecord.{distances}
use Rattle.network_bytes.proofs.write_distances.Goals as goal

pub returns : goal.returns
unfolding distances
returns c =
    let n = c.args.n in
    let from = c.args.from in
    let bytes = c.args.bytes.now in
    let p = c.requires in
    -- what stands after each distance
    let d1 = bytes_of 4 (15 * n) in
    let d2 = d1 ++ bytes_of 4 (13 * n) in
    let d3 = d2 ++ bytes_of 4 (11 * n) in
    let d4 = d3 ++ bytes_of 4 (9 * n) in
    let d5 = d4 ++ bytes_of 4 (5 * n) in
    let e2 = stored_on d1 (bytes_of 4 (13 * n)) bytes from (from + 4) refl (omega arith) c.write.ensures c.write-2.ensures in
    let e3 = stored_on d2 (bytes_of 4 (11 * n)) bytes from (from + 8) refl (omega arith) e2 c.write-3.ensures in
    let e4 = stored_on d3 (bytes_of 4 (9 * n)) bytes from (from + 12) refl (omega arith) e3 c.write-4.ensures in
    let e5 = stored_on d4 (bytes_of 4 (5 * n)) bytes from (from + 16) refl (omega arith) e4 c.write-5.ensures in
    stored_on d5 (bytes_of 4 n) bytes from (from + 20) refl (omega arith) e5 c.write-6.ensures
