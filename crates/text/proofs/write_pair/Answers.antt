-- `text::write_pair` meets its contract: the word and the two numbers are written one after the other.
-- Assumes nothing.
use mathlib.Core.List.{append_assoc}
use mathlib.Core.Path.{refl}
use native.Mathlib.Omega.{arith}
use Rattle.text.proofs.Lines.{length_field, length-pair_line}
use Rattle.text.proofs.Writing.{printed, wrote_then}
use Rattle.text.proofs.write_pair.Goals as goal

pub write_word-from-requires : goal.write_word-from-requires
write_word-from-requires c =
    let a = c.args in
    omega (arith, length-pair_line a.word.now a.first a.second)

pub write_number-middle-requires : goal.write_number-middle-requires
write_number-middle-requires c =
    let a = c.args in
    omega (arith, length-pair_line a.word.now a.first a.second, length_field a.first 32)

pub write_number-requires : goal.write_number-requires
write_number-requires c =
    let a = c.args in
    omega (arith, length-pair_line a.word.now a.first a.second, length_field a.first 32, length_field a.second 10)

pub returns : goal.returns
returns c =
    printed
    (wrote_then c.write_word-from.ensures (wrote_then c.write_number-middle.ensures c.write_number.ensures refl)
    (simp append_assoc))
