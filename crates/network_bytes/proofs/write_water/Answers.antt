-- `network_bytes::write_water` meets its contract: three sections, one after the other, from the middle of the record on.
-- Assumes nothing.
use mathlib.Core.List.{map, ◌++◌}
use mathlib.Core.Path.{◌∙◌, ◌≡◌}
use Prim.Native.Nat.{◌*◌}
use native.Mathlib.Omega.{arith}
use lib.ListN.{length, length-append, length-map, length-take, take}
use Rattle.heights.proofs.HeightSections.{length-height_section}
use Rattle.heights.specs.Bits.{height_section}
use Rattle.sections.proofs.Sections.{length-section_of, section_of_bytes}
use Rattle.sections.specs.LittleEndian.{section_of}
use Rattle.lists.proofs.Stored.{stored_on}
use Rattle.network_bytes.specs.NetworkRecord.{water_sections}
use Rattle.rules.specs.Ground.{dropped}
use Rattle.network_bytes.proofs.write_water.Goals as goal

pub write_section_levels-requires : goal.write_section_levels-requires
write_section_levels-requires c = (simp length-take (omega arith), c.requires.n_bound.2)

pub returns : goal.returns
unfolding water_sections
returns c =
    let a = c.args in
    let bytes = a.bytes.now in
    let levels = take a.n a.levels.now in
    let l = height_section (map dropped levels) in
    let d = section_of 4 (take a.n a.drainage.now) in
    let t = take a.n a.wet.now in
    let ll : length l ≡ 4 * a.n = length-height_section (map dropped levels) ∙ simp (length-map, length-take) (omega (arith, c.requires)) in
    let ld : length d ≡ 4 * a.n = simp (length-section_of, length-take) (omega (arith, c.requires)) in
    let lld : length (l ++ d) ≡ 8 * a.n = length-append l d ∙ omega arith in
    let lt : length t ≡ a.n = simp length-take (omega (arith, c.requires)) in
    let both =
    stored_on l d bytes (6 * a.n) (10 * a.n) (omega arith) (omega arith) c.write_section_levels.ensures
    c.write_section.ensures in
    stored_on (l ++ d) t bytes (6 * a.n) (14 * a.n) (omega arith) (omega arith) both (rw (section_of_bytes t) at c.write_section-2.ensures)
