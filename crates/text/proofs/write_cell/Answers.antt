-- `text::write_cell` meets its contract: the four numbers are written one after the other.
-- Assumes nothing.
use mathlib.Core.List.{[], append_assoc, ◌++◌, ◌∷◌}
use mathlib.Core.Path.{refl, ◌≡◌}
use Prim.Native.Nat.{ℕ, ◌+◌}
use native.Mathlib.Omega.{arith}
use lib.ListN.{length}
use Rattle.rules.specs.Ground.{dropped}
use Rattle.text.proofs.Lines.{length-cell_line, length_field, length-level}
use Rattle.text.proofs.Writing.{wrote_then}
use Rattle.text.specs.Text.{cell_line, decimal, signed_decimal}
use Rattle.text.proofs.write_cell.Goals as goal

-- the line's length, and those of its four fields with what follows each
record Lengths (c r x d : ℕ) : Type 0 where
  whole : length (cell_line c r (dropped x) d)
      ≡ length (decimal c) + length (decimal r) + length (signed_decimal (dropped x)) + length (decimal d) + 4
  number : length (decimal c ++ (32 ∷ [])) ≡ length (decimal c) + 1
  receiver : length (decimal r ++ (32 ∷ [])) ≡ length (decimal r) + 1
  level : length (signed_decimal (dropped x) ++ (32 ∷ [])) ≡ length (signed_decimal (dropped x)) + 1
  drainage : length (decimal d ++ (10 ∷ [])) ≡ length (decimal d) + 1

lengths : (c r x d : ℕ) → Lengths c r x d
lengths c r x d =
    record {
      whole = length-cell_line c r (dropped x) d;
      number = length_field c 32;
      receiver = length_field r 32;
      level = length-level (dropped x) 32;
      drainage = length_field d 10;
    }

pub write_number-second-requires : goal.write_number-second-requires
write_number-second-requires c =
    let a = c.args in
    omega (arith, lengths a.cell.0 a.receiver.0 a.level a.drainage)

pub write_number-third-requires : goal.write_number-third-requires
write_number-third-requires c =
    let a = c.args in
    omega (arith, lengths a.cell.0 a.receiver.0 a.level a.drainage)

pub write_level-fourth-requires : goal.write_level-fourth-requires
write_level-fourth-requires c =
    let a = c.args in
    omega (arith, lengths a.cell.0 a.receiver.0 a.level a.drainage)

pub write_number-requires : goal.write_number-requires
write_number-requires c =
    let a = c.args in
    omega (arith, lengths a.cell.0 a.receiver.0 a.level a.drainage)

pub returns : goal.returns
unfolding cell_line
returns c =
    wrote_then c.write_number-second.ensures
    (wrote_then c.write_number-third.ensures (wrote_then c.write_level-fourth.ensures c.write_number.ensures refl) refl)
    (simp append_assoc)
