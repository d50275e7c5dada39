-- `records::read_cells` meets its contract: heights and marks that are read one by one are those of their sections.
-- Assumes nothing.
use mathlib.Core.List.{List}
use mathlib.Core.Path.{ap, ◌∙◌}
use Prim.Native.Nat.{ℕ, ◌*◌}
use lib.IntN.{ℤ}
use native.Mathlib.Omega.{arith}
use Rattle.heights.proofs.HeightSections.{heights_read}
use Rattle.lists.specs.Lists.{overwrite}
use Rattle.sections.proofs.Sections.{bytes_read}
use Rattle.records.proofs.read_cells.Goals as goal

pub returns-clause-heights_after : goal.returns-clause-heights_after
returns-clause-heights_after c =
    let a = c.args in
    c.read_section.ensures ∙ ap (λ (l : List ℤ). overwrite l a.heights.now) (heights_read a.bytes.now 0 a.n)

pub returns-clause-marks_after : goal.returns-clause-marks_after
returns-clause-marks_after c =
    let a = c.args in
    c.read_section-2.ensures ∙ ap (λ (l : List ℕ). overwrite l a.marks.now) (bytes_read a.bytes.now (4 * a.n) a.n (omega arith))
