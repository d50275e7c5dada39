-- `lake_list::measuring::split_height` meets its contract. Between turns h is the greatest of the flagged heights of the cells so far.
-- Assumes nothing.
use mathlib.Core.Path.{◌≡◌}
use Rattle.lake_list.specs.Measured.{flag_height}
use Rattle.lists.specs.Greatest.{greatest}
use Rattle.lists.specs.Lists.{at, tab}
use Rattle.lake_list.proofs.measuring.split_height.Given as goal

abbrev pub invariant-loop-c : goal.invariant-loop-c
invariant-loop-c l = l.h ≡ greatest (tab l.c-index (λ k. flag_height l.heights l.flags (at l.cells k)))
