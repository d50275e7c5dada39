-- `spread::spread` meets its contract: the queue is work space, so of its list only the length matters.
-- Assumes nothing.
use mathlib.Core.Bool.{Bool}
use mathlib.Core.List.{List}
use mathlib.Core.Path.{◌≡◌}
use Prim.Native.Nat.{ℕ}
use native.Mathlib.Omega.{arith}
use lib.ListN.{length}
use Rattle.spread.specs.Spread.{Spreadable}
use Rattle.grid.specs.declared.Neighbours.{Neighbours}
use Rattle.spread.proofs.spread.Goals as goal

-- with another queue of the same length
with-queue : {N : Neighbours} {w : ℕ} {E : ℕ → ℕ → Bool} {masks counts queue : List ℕ} (now : List ℕ) → length now ≡ length queue
    → Spreadable N w E masks counts queue → Spreadable N w E masks counts now
with-queue now same P =
    record {
      grid = P.grid;
      masks_say = P.masks_say;
      both_ways = P.both_ways;
      near = P.near;
      room = P.room;
      queue_room = let q = P.queue_room in omega arith;
      first = P.first;
    }

pub flood-requires : goal.flood-requires
flood-requires c =
    let (E, P) = c.requires in
    record {
      by_index = (E, with-queue c.gather-starts.new.queue c.gather-starts.auto.queue P);
      packs = c.gather-starts.ensures;
    }

pub returns : goal.returns
returns c =
    λ E P. c.flood.ensures E (with-queue c.gather-starts.new.queue c.gather-starts.auto.queue P)
