-- `lake_notes::join_all` meets its contract: the groups are a part of the list that it takes, one entry for each cell.
-- Assumes nothing.
use mathlib.Core.Path.{sym, ◌≡◌}
use Prim.Native.Nat.{ℕ, ◌≤◌}
use lib.ListN.{length, replicate, take}
use lib.Seq.{length-take-le}
use Rattle.lake_notes.proofs.meeting.join_all.Goals as goal

-- the part of the zeros that it lends
zeros-long : (n : ℕ) → n ≤ 4096 → length {A = ℕ} (take n (replicate 4096 0)) ≡ n
zeros-long n h = length-take-le n (replicate 4096 0) h

pub slice_bounds-join_in-end : goal.slice_bounds-join_in-end
slice_bounds-join_in-end c =
    sym (zeros-long (length c.args.heights.now) c.requires.climbing.0.few)

pub join_in-requires : goal.join_in-requires
join_in-requires c =
    let few = c.requires.climbing.0.few in record {
      climbing = c.requires.climbing.0;
      sized = record {
        group_sized = zeros-long (length c.args.heights.now) few;
        lows_fit = few;
        flags_fit = c.requires.climbing.1;
        parents_fit = c.requires.heights_in_bounds.0;
        joins_fit = c.requires.heights_in_bounds.1;
      };
    }

pub returns : goal.returns
returns c = c.join_in.ensures
