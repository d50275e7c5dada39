-- `squares::compress` meets its contract: after c turns the pairs of c cells stand at the start.
-- Assumes nothing.
use Rattle.lists.specs.Lists.{at}
use Rattle.squares.proofs.Packing.{packing_next, packing_none}
use Rattle.squares.proofs.compress.Goals as goal

pub loop-c-init : goal.loop-c-init
loop-c-init c = packing_none _ _ _

pub loop-c-preserved : goal.loop-c-preserved
loop-c-preserved c =
    packing_next c.args.neighbours (at c.args.flags.now) c.loop-c.invariant c.pack_cell-k.auto.list c.pack_cell-k.ensures.0
    c.pack_cell-k.ensures.1
