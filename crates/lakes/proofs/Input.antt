-- How much `lakes` has to read: the first 28,689 bytes of an input decide its text.
-- Assumes nothing.
use mathlib.Core.List.{List}
use mathlib.Core.Path.{◌≡◌}
use Prim.Native.Nat.{ℕ, ◌+◌}
use lib.ListN.{take}
use Rattle.lakes.specs.Program.{ground_lakes_text, lakes_program_text}
use Rattle.record_text.proofs.Input.{record_enough}
use Rattle.record_text.specs.RecordText.{longest_record}

pub lakes_enough_read : (s : List ℕ) → lakes_program_text (take (longest_record + 1) s) ≡ lakes_program_text s
unfolding lakes_program_text
lakes_enough_read = record_enough ground_lakes_text
