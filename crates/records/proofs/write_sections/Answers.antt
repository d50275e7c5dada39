-- `records::write_sections` meets its contract: each section is stored next to what was stored before it.
-- Assumes nothing.
use mathlib.Core.Path.{◌∙◌}
use Rattle.ground.proofs.Acceptance.{good_full}
use Rattle.ground.specs.Record.{ground_of_lists}
use Rattle.heights.proofs.HeightSections.{heights_written}
use Rattle.heights.specs.Bits.{height_section}
use Rattle.lists.proofs.Stored.{stored-start}
use Rattle.records.proofs.Sections.{record_done}
use Rattle.sections.proofs.Sections.{section_of_bytes}
use Rattle.records.proofs.write_sections.Goals as goal

pub returns : goal.returns
returns c =
    let a = c.args in
    let g = ground_of_lists a.width a.height a.heights.now a.marks.now a.water.now in
    record_done g (good_full g c.requires.0) a.bytes.now c.cells-n.result c.cells-n.ensures
    (rw (heights_written a.heights.now) at c.write_section.ensures ∙ stored-start (height_section a.heights.now) a.bytes.now)
    (rw (section_of_bytes a.marks.now) at c.write_section-2.ensures) c.write_section-3.ensures c.write_trailer.ensures
