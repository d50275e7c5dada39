-- How much `drain` has to read: the first 28,689 bytes of an input decide its text.
-- Assumes nothing.
use mathlib.Core.List.{List}
use mathlib.Core.Path.{◌≡◌}
use Prim.Native.Nat.{ℕ, ◌+◌}
use lib.ListN.{take}
use Rattle.drain.specs.Drain.{drain_text}
use Rattle.record_text.proofs.Input.{record_enough}
use Rattle.record_text.specs.RecordText.{longest_record}
use Rattle.text.specs.Text.{ground_text}

pub drain_enough : (s : List ℕ) → drain_text (take (longest_record + 1) s) ≡ drain_text s
unfolding drain_text
drain_enough = record_enough ground_text
