-- `links::add` meets its contract: at turn c the cells before c - after have what their neighbours add, and the others are as they
-- were, so that each sum fits.
-- Assumes nothing.
use Prim.Native.Nat.{max, ◌+◌, ◌≤◌}
use Rattle.links.specs.Leads.{Added, added_to}
use Rattle.links.proofs.add.Given as goal

abbrev pub invariant-loop-c : goal.invariant-loop-c
invariant-loop-c l =
    (l.after + l.before ≤ l.c) × (l.c ≤ max (l.after + l.before) l.n) × Added (added_to l.after l.before l.c l.weights l.weight l.more) l.initial.links l.links
