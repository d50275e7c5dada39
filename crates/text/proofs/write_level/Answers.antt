-- `text::write_level` meets its contract: a minus sign and the digits of what the level lacks, or the digits of what it has above 8,000,000.
-- Assumes nothing.
use mathlib.Core.Path.{ap, refl, ◌∙◌}
use Prim.Native.Nat.{◌-◌}
use native.Mathlib.Omega.{arith}
use lib.ListN.{length, length-set}
use Rattle.rules.specs.Ground.{dropped}
use Rattle.text.proofs.Lines.{length_field, length-level, level-above, level-below}
use Rattle.text.proofs.Writing.{wrote_byte, wrote_then}
use Rattle.text.proofs.write_level.Goals as goal

pub write_number-requires : goal.write_number-requires
write_number-requires c =
    let a = c.args in
    rw (← level-above a.level c.if-level-ge8000000.true) c.requires

pub bounds-text-from : goal.bounds-text-from
bounds-text-from c =
    let a = c.args in
    omega (arith, length-level (dropped a.level) 32)

pub write_number-requires-else-level-ge8000000 : goal.write_number-requires-else-level-ge8000000
write_number-requires-else-level-ge8000000 c =
    let a = c.args in
    let l = length-level (dropped a.level) 32 in
    let k = ap length (level-below a.level c.if-level-ge8000000.false) in
    let f = length_field (8000000 - a.level) 32 in
    simp length-set (omega arith)

pub returns-then-level-ge8000000 : goal.returns-then-level-ge8000000
returns-then-level-ge8000000 c =
    let a = c.args in
    rw (level-above a.level c.if-level-ge8000000.true) c.write_number.ensures

pub shape_of-text-else-level-ge8000000 : goal.shape_of-text-else-level-ge8000000
shape_of-text-else-level-ge8000000 c = c.write_number-else-level-ge8000000.auto.text ∙ simp length-set

pub returns-else-level-ge8000000 : goal.returns-else-level-ge8000000
returns-else-level-ge8000000 c =
    let a = c.args in
    let h = c.if-level-ge8000000.false in
    let l = length-level (dropped a.level) 32 in
    rw (level-below a.level h)
    (wrote_then (wrote_byte a.text.now a.from 45 (omega arith)) c.write_number-else-level-ge8000000.ensures refl)
