-- `lake_text::write_rows` meets its contract: after each turn one line more is written.
-- Assumes nothing.
use mathlib.Core.Path.{◌≡◌}
use Prim.Native.Nat.{◌-◌, ◌≤◌}
use lib.ListN.{length}
use Rattle.lake_text.proofs.Lines.{lines}
use Rattle.text.specs.Writing.{Wrote}
use Rattle.lake_text.proofs.write_rows.Given as goal

abbrev pub invariant-loop-i : goal.invariant-loop-i
invariant-loop-i l = (l.i ≤ l.n) × (length l.text ≡ length l.initial.text) × Wrote l.from (lines l.rows l.i) l.initial.text l.text l.to

abbrev pub decreases-loop-i : goal.decreases-loop-i
decreases-loop-i l = l.n - l.i
