-- `lake_list::measuring::volume_of` meets its contract. Between turns the total is that of the cells so far.
-- Assumes nothing.
use mathlib.Core.Path.{◌≡◌}
use Prim.Native.Nat.{◌*◌, ◌-◌, ◌≤◌}
use Rattle.lists.specs.Lists.{at, sum, tab}
use Rattle.lake_list.proofs.measuring.volume_of.Given as goal

abbrev pub invariant-loop-c : goal.invariant-loop-c
invariant-loop-c l = (l.total ≡ sum (tab l.c-index (λ k. l.level - at l.heights (at l.cells k)))) × (l.total ≤ l.c-index * 4294967296)
