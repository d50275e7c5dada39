-- `squares::add_flags` meets its contract.
-- After c turns the first c flags have the side's bit where the pair is kept. A turn adds what `kept` says of the cell's two squares;
-- flags have room for it.
-- Assumes nothing.
use Prim.Native.Nat.{◌+◌}
use lib.ListN.{length}
use Rattle.lists.specs.Lists.{at}
use Rattle.lists.specs.Stores.{Puts}
use Rattle.squares.specs.Squares.{flag}
use Rattle.squares.proofs.add_flags.Given as goal

abbrev pub invariant-loop-c : goal.invariant-loop-c
invariant-loop-c l = Puts (λ i. at l.initial.flags i + flag l.side (length l.tile.heights.now) l.tile.labels.now (at l.sq) i) 0 l.c l.initial.flags l.flags
