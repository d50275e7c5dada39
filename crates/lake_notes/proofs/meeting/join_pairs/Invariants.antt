-- `lake_notes::join_pairs` meets its contract: after i pairs the lists say what the pass over these says.
-- Assumes nothing.
use mathlib.Core.Path.{◌≡◌}
use Prim.Native.Nat.{◌≤◌}
use lib.ListN.{length}
use Rattle.lake_notes.proofs.Turns.{Turned}
use Rattle.lake_notes.specs.Meeting.{lists_of}
use Rattle.lake_notes.proofs.meeting.join_pairs.Given as goal

abbrev pub invariant-loop-p : goal.invariant-loop-p
invariant-loop-p l =
    (l.p-index-end ≡ length l.list) × (l.p-index ≤ length l.list)
    × Turned l.w l.heights l.list (lists_of l.initial.group l.initial.lows l.initial.flags l.initial.parents l.initial.joins)
    (lists_of l.group l.lows l.flags l.parents l.joins) l.p-index
