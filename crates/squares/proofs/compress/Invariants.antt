-- `squares::compress` meets its contract: after c turns the pairs of c cells stand at the start.
-- Assumes nothing.
use Rattle.lists.specs.Lists.{at}
use Rattle.squares.proofs.Packing.{Packing}
use Rattle.squares.proofs.compress.Given as goal

abbrev pub invariant-loop-c : goal.invariant-loop-c
invariant-loop-c l = Packing l.neighbours (at l.flags) l.initial.list l.list l.k l.c
