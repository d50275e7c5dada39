-- `walk::push_outlets` meets its contract.
-- Between turns the outlets from cell c on are pushed (Begins): the top is no lower than c, so there is room for one more.
-- Assumes nothing.
use Rattle.std.proofs.Common.{length}
use Rattle.walk.proofs.Begins.{Begun}
use Rattle.walk.specs.Climb.{outlet_entry}
use Rattle.walk.proofs.push_outlets.Given as goal

abbrev pub invariant-loop-c : goal.invariant-loop-c
invariant-loop-c l = Begun (outlet_entry l.links) l.marks l.initial.stack l.stack (length l.marks) l.c l.top.0
