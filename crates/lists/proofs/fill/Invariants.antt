-- `lists::fill` meets its contract: after k turns the first k entries are what the closure gave.
-- Assumes nothing.
use Rattle.std.specs.Prelude.{◌≡◌, ℕ, ◌<◌, ◌≤◌}
use Rattle.lists.specs.Lists.{filled}
use Rattle.lists.proofs.fill.Given as goal

abbrev pub invariant-loop-k : goal.invariant-loop-k
invariant-loop-k g l =
    (l.k ≤ l.fn.n)
    × ((f : ℕ → g.row.T.Denot) → ((k : ℕ) → k < l.fn.n → (y : g.row.T.Denot) → goal.F-post g l.fn.of k y → y ≡ f k)
    → l.out ≡ filled f l.k l.initial.out)
