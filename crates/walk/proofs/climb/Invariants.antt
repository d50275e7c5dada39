-- `walk::climb` meets its contract.
-- Between turns the invariant of Midst holds for all marks and receivers that the contract speaks of. Of those that it requires, the top
-- cell, its receiver and its room on the stack are known (Tops), and so every index is in its list; with four neighbours its mask has no
-- corners (Asked). Turns keeps the invariant.
-- Assumes nothing.
use Rattle.std.proofs.Common.{ℕ, ◌-◌, List, length}
use Rattle.rules.specs.Land.{rule_by}
use Rattle.rules.specs.Tile.{tile_land}
use Rattle.walk.proofs.Midst.{Midst}
use Rattle.walk.specs.Climb.{Ready}
use Rattle.walk.specs.Walk.{lent, Margin}
use Rattle.walk.proofs.climb.Given as goal

abbrev pub invariant-loop-top : goal.invariant-loop-top
invariant-loop-top l =
    (marks : List ℕ) → (r : List ℕ) → Margin (rule_by l.neighbours) l.w l.heights marks l.links r
    → Ready l.w (tile_land (rule_by l.neighbours) l.w l.heights marks) r
    (lent l.initial.stack l.initial.order l.initial.receivers l.initial.levels l.initial.wets) l.initial.top.0
    → Midst l.w (tile_land (rule_by l.neighbours) l.w l.heights marks) r
    (lent l.initial.stack l.initial.order l.initial.receivers l.initial.levels l.initial.wets) (lent l.stack l.order l.receivers l.levels l.wets)
    l.written.0 l.top.0

abbrev pub decreases-loop-top : goal.decreases-loop-top
decreases-loop-top l =
    length l.heights - l.written.0
