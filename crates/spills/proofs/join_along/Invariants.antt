-- `spills::join_along` meets its contract: after i pairs the groups follow these, and the notes say how.
-- Assumes nothing.
use mathlib.Core.List.{List}
use mathlib.Core.Path.{◌≡◌}
use Prim.Native.Nat.{ℕ, ◌≤◌}
use lib.ListN.{length, take}
use Rattle.spills.specs.Noting.{Noting}
use Rattle.spills.specs.Spills.{Spilling}
use Rattle.spills.proofs.join_along.Given as goal

abbrev pub invariant-loop-p : goal.invariant-loop-p
invariant-loop-p l =
    (l.p-index-end ≡ length l.list) × (l.p-index ≤ length l.list) × (length l.group ≡ length l.initial.group) × (length l.notes ≡ length l.initial.notes)
    × ((heights : List ℕ) → Spilling l.w heights l.labels l.list → Noting l.w heights l.labels (take l.p-index l.list) l.group l.notes)
