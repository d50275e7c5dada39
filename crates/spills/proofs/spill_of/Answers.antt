-- `spills::spill_of` meets its contract: no note says 0, and any other the greater of a pair's height and of a spill.
-- Assumes nothing.
use mathlib.Core.Path.{ap, sym, ◌∙◌}
use Prim.Native.Nat.{max, ℕ, ◌%◌}
use lib.ListN.{length}
use Rattle.lists.specs.Lists.{at}
use Rattle.spills.proofs.Spilled.{read_some, spill-none, spill_some}
use Rattle.spills.proofs.spill_of.Goals as goal

pub returns-then-note-eq-NONE : goal.returns-then-note-eq-NONE
returns-then-note-eq-NONE c =
    let a = c.args in
    sym (spill-none a.w a.heights.now a.spills.now a.note c.if-note-eq-NONE.true)

pub height-h-requires : goal.height-h-requires
height-h-requires c =
    let a = c.args in
    (c.requires.0, c.requires.1, c.requires.2, (read_some a.w (length a.heights.now) (length a.spills.now) a.note c.requires.3 c.if-note-eq-NONE.false).0)

pub bounds-spills-note : goal.bounds-spills-note
bounds-spills-note c =
    let a = c.args in
    (read_some a.w (length a.heights.now) (length a.spills.now) a.note c.requires.3 c.if-note-eq-NONE.false).1

pub returns : goal.returns
returns c =
    let a = c.args in
    c.max.ensures
    ∙ ap (λ (h : ℕ). max h (at a.spills.now (a.note % 65536))) c.height-h.ensures
    ∙ sym (spill_some a.w a.heights.now a.spills.now a.note c.if-note-eq-NONE.false)
