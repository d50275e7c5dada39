-- `lake_text::write_lake` meets its contract: the four numbers are written one after the other.
-- Assumes nothing.
use mathlib.Core.List.{[], append_assoc, ◌++◌, ◌∷◌}
use mathlib.Core.Path.{refl, ◌≡◌}
use Prim.Native.Nat.{ℕ, ◌+◌}
use native.Mathlib.Omega.{arith}
use lib.ListN.{length}
use Rattle.lake_rules.specs.Lakes.{Lake}
use Rattle.lake_text.proofs.Lines.{length-lake_line}
use Rattle.lake_text.specs.LakeText.{lake_line}
use Rattle.rules.specs.Ground.{dropped}
use Rattle.text.proofs.Lines.{length_field, length-level}
use Rattle.text.proofs.Writing.{wrote_then}
use Rattle.text.specs.Text.{decimal, signed_decimal}
use Rattle.lake_text.proofs.write_lake.Goals as goal

-- the line's length, and those of its four fields with what follows each
record Lengths (x : Lake) : Type 0 where
  whole : length (lake_line x)
      ≡ length (signed_decimal (dropped x.level)) + length (decimal x.count) + length (decimal x.volume) + length (decimal x.least) + 4
  level : length (signed_decimal (dropped x.level) ++ (32 ∷ [])) ≡ length (signed_decimal (dropped x.level)) + 1
  count : length (decimal x.count ++ (32 ∷ [])) ≡ length (decimal x.count) + 1
  volume : length (decimal x.volume ++ (32 ∷ [])) ≡ length (decimal x.volume) + 1
  least : length (decimal x.least ++ (10 ∷ [])) ≡ length (decimal x.least) + 1

lengths : (level count volume least : ℕ) → Lengths (record { level = level; count = count; volume = volume; least = least })
lengths level count volume least =
    record {
      whole = length-lake_line (record { level = level; count = count; volume = volume; least = least });
      level = length-level (dropped level) 32;
      count = length_field count 32;
      volume = length_field volume 32;
      least = length_field least 10;
    }

pub write_level-second-requires : goal.write_level-second-requires
write_level-second-requires c =
    let a = c.args in
    omega (arith, lengths a.level a.count a.volume a.least.0)

pub write_number-third-requires : goal.write_number-third-requires
write_number-third-requires c =
    let a = c.args in
    omega (arith, lengths a.level a.count a.volume a.least.0)

pub write_number-fourth-requires : goal.write_number-fourth-requires
write_number-fourth-requires c =
    let a = c.args in
    omega (arith, lengths a.level a.count a.volume a.least.0)

pub write_number-requires : goal.write_number-requires
write_number-requires c =
    let a = c.args in
    omega (arith, lengths a.level a.count a.volume a.least.0)

pub returns : goal.returns
unfolding lake_line
returns c =
    wrote_then c.write_level-second.ensures
    (wrote_then c.write_number-third.ensures (wrote_then c.write_number-fourth.ensures c.write_number.ensures refl) refl)
    (simp append_assoc)
