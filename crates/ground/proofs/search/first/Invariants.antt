-- `ground::search::first` meets its contract: nothing is found yet, and no cell before the two loops' is bad.
-- Assumes nothing.
use Rattle.std.specs.Prelude.{Bool, None, ◌≡◌, ℕ, ◌*◌, ◌+◌, ◌-◌, ◌<◌, ◌≤◌}
use Rattle.lists.specs.Find.{NoneBelow}
use Rattle.ground.proofs.search.first.Given as goal

abbrev pub invariant-loop-col : goal.invariant-loop-col
invariant-loop-col g l =
    (l.place ≡ None)
    × (l.col ≤ l.width)
    × ((p : ℕ → Bool)
    → ((k : ℕ) → k < l.fn.size.height * l.fn.size.width → (y : Bool) → goal.F-post g l.fn.is_bad k y → y ≡ p k)
    → NoneBelow p (l.row * l.width + l.col))

abbrev pub decreases-loop-col : goal.decreases-loop-col
decreases-loop-col g l = l.width - l.col

abbrev pub invariant-search : goal.invariant-search
invariant-search g l =
    (l.place ≡ None)
    × (l.row ≤ l.height)
    × ((p : ℕ → Bool)
    → ((k : ℕ) → k < l.fn.size.height * l.fn.size.width → (y : Bool) → goal.F-post g l.fn.is_bad k y → y ≡ p k)
    → NoneBelow p (l.row * l.width))

abbrev pub decreases-search : goal.decreases-search
decreases-search g l = l.height - l.row
