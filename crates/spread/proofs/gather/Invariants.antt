-- `spread::gather` meets its contract: between turns the places of those before cell c are packed into the queue (Begins).
-- Assumes nothing.
use Rattle.lists.specs.Stores.{Packs}
use Rattle.spread.specs.Wave.{beginnings}
use Rattle.spread.proofs.gather.Given as goal

abbrev pub invariant-loop-c : goal.invariant-loop-c
invariant-loop-c l = Packs (beginnings l.masks l.counts l.c) l.queue l.tail.0
