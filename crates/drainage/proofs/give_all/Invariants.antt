-- `drainage::give_all` meets its contract. Between turns the cells from the place on have given (Given).
-- Assumes nothing.
use mathlib.Core.List.{List}
use mathlib.Core.Path.{◌≡◌}
use Prim.Native.Nat.{ℕ, ◌≤◌}
use lib.ListN.{length}
use Rattle.drainage.proofs.Backwards.{Given}
use Rattle.drainage.specs.Giving.{Ordered}
use Rattle.rules.specs.Land.{Land}
use Rattle.drainage.proofs.give_all.Given as goal

abbrev pub invariant-loop-place : goal.invariant-loop-place
invariant-loop-place l =
    (l.place ≤ l.n) × (length l.drainage ≡ length l.initial.drainage)
    × ((L : Land) → (r : List ℕ) → (G : Ordered L r l.n l.order l.receivers) → Given L r l.n l.order l.receivers G l.initial.drainage l.drainage l.place)

abbrev pub decreases-loop-place : goal.decreases-loop-place
decreases-loop-place l = l.place
