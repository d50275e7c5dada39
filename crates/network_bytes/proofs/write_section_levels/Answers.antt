-- `network_bytes::write_section_levels` meets its contract: the part that was lent comes back as the section.
-- Assumes nothing.
use mathlib.Core.Path.{◌∙◌, ◌≡◌}
use Prim.Native.Nat.{◌*◌, ◌+◌}
use lib.ListN.{length}
use Rattle.heights.specs.Bits.{dropped_bits, height_section}
use Rattle.lists.proofs.Stored.{stored-part}
use Rattle.rules.specs.Ground.{dropped}
use Rattle.sections.proofs.Numbers.{length-bytes_of}
use Rattle.sections.proofs.Sections.{length-flat}
use Rattle.sections.specs.LittleEndian.{bytes_of}
use Rattle.std.specs.Prelude.{map}
use Rattle.network_bytes.proofs.Laws.{levels_written}
use Rattle.network_bytes.proofs.write_section_levels.Goals as goal

pub returns : goal.returns
returns c =
    let a = c.args in
    let same = levels_written a.levels.now c.requires.1 in
    let size : a.from + length (height_section (map dropped a.levels.now)) ≡ a.from + 4 * length a.levels.now =
    rw (← same, length-flat (λ x. bytes_of 4 (dropped_bits x)) 4 (λ x. length-bytes_of 4 (dropped_bits x)) a.levels.now) in
    stored-part a.bytes.now a.from (a.from + 4 * length a.levels.now) size (c.fill_levels.ensures ∙ same)
