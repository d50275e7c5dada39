-- `text::write_sums` meets its contract: two words and two sums are written one after the other.
-- Assumes nothing.
use mathlib.Core.List.{append_assoc}
use mathlib.Core.Path.{refl}
use native.Mathlib.Omega.{arith}
use Rattle.text.proofs.Lines.{length_field, length-sums_line}
use Rattle.text.proofs.Writing.{wrote_then}
use Rattle.text.specs.Text.{sums_line}
use Rattle.text.proofs.write_sums.Goals as goal

pub write_word-second-requires : goal.write_word-second-requires
write_word-second-requires c =
    let a = c.args in
    omega (arith, length-sums_line a.out a.water, length_field a.out 32, length_field a.water 10)

pub write_number-third-requires : goal.write_number-third-requires
write_number-third-requires c =
    let a = c.args in
    omega (arith, length-sums_line a.out a.water, length_field a.out 32, length_field a.water 10)

pub write_word-fourth-requires : goal.write_word-fourth-requires
write_word-fourth-requires c =
    let a = c.args in
    omega (arith, length-sums_line a.out a.water, length_field a.out 32, length_field a.water 10)

pub write_number-requires : goal.write_number-requires
write_number-requires c =
    let a = c.args in
    omega (arith, length-sums_line a.out a.water, length_field a.out 32, length_field a.water 10)

pub returns : goal.returns
unfolding sums_line
returns c =
    wrote_then c.write_word-second.ensures
    (wrote_then c.write_number-third.ensures (wrote_then c.write_word-fourth.ensures c.write_number.ensures refl) refl)
    (simp append_assoc)
