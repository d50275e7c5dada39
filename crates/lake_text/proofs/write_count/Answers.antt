-- `lake_text::write_count` meets its contract: the word and the number are written one after the other.
-- Assumes nothing.
use mathlib.Core.Path.{refl}
use native.Mathlib.Omega.{arith}
use Rattle.lake_text.proofs.Lines.{length-lakes_line}
use Rattle.lake_text.specs.LakeText.{lakes_line}
use Rattle.text.proofs.Lines.{length_field}
use Rattle.text.proofs.Writing.{wrote_then}
use Rattle.lake_text.proofs.write_count.Goals as goal

pub write_word-from-requires : goal.write_word-from-requires
write_word-from-requires c = let a = c.args in omega (arith, length-lakes_line a.n)

pub write_number-requires : goal.write_number-requires
write_number-requires c =
    let a = c.args in
    omega (arith, length-lakes_line a.n, length_field a.n 10)

pub returns : goal.returns
unfolding lakes_line
returns c =
    wrote_then c.write_word-from.ensures c.write_number.ensures refl
