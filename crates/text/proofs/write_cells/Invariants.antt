-- `text::write_cells` meets its contract: after each turn one line more is written.
-- Assumes nothing.
use mathlib.Core.List.{map}
use mathlib.Core.Path.{◌≡◌}
use Prim.Native.Nat.{◌-◌, ◌≤◌}
use lib.ListN.{length}
use Rattle.rules.specs.Ground.{dropped}
use Rattle.text.specs.Text.{cell_lines}
use Rattle.text.specs.Writing.{Wrote}
use Rattle.text.proofs.write_cells.Given as goal

abbrev pub invariant-loop-c : goal.invariant-loop-c
invariant-loop-c l =
    (l.c ≤ l.n) × (length l.text ≡ length l.initial.text) × Wrote l.from (cell_lines l.receivers (map dropped l.levels) l.drainage l.c) l.initial.text
    l.text l.to

abbrev pub decreases-loop-c : goal.decreases-loop-c
decreases-loop-c l = l.n - l.c
