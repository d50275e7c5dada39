-- `network_bytes::write_flow` meets its contract: three sections, one after the other.
-- Assumes nothing.
use mathlib.Core.List.{[], ◌++◌}
use mathlib.Core.Path.{refl, ◌≡◌}
use Prim.Native.Nat.{◌*◌}
use native.Mathlib.Omega.{arith}
use lib.ListN.{length, length-append, length-take, take}
use Rattle.sections.proofs.Sections.{length-section_of}
use Rattle.sections.specs.LittleEndian.{section_of}
use Rattle.lists.proofs.Overwrite.{overwrite-next}
use Rattle.network_bytes.specs.NetworkRecord.{flow_sections}
use Rattle.network_bytes.proofs.write_flow.Goals as goal

pub returns : goal.returns
unfolding flow_sections
returns c =
    let a = c.args in
    let r = section_of 2 (take a.n a.receivers.now) in
    let b = section_of 2 (take a.n a.basins.now) in
    let o = section_of 2 (take a.n a.order.now) in
    let lr : length r ≡ 2 * a.n = simp (length-section_of, length-take) (omega (arith, c.requires)) in
    let lrb : length (r ++ b) ≡ 4 * a.n = simp (length-append, length-section_of, length-take) (omega (arith, c.requires)) in
    let first = overwrite-next [] r a.bytes.now 0 refl refl c.write_section.ensures in
    let second = overwrite-next r b a.bytes.now (2 * a.n) lr first c.write_section-2.ensures in
    overwrite-next (r ++ b) o a.bytes.now (4 * a.n) lrb second c.write_section-3.ensures
