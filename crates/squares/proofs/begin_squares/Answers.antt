-- `squares::begin_squares` meets its contract: the squares that begin at the first cells are filled in.
-- Assumes nothing.
use mathlib.Core.List.{List}
use mathlib.Core.Logic.{inl, inr, ◌⊎◌}
use mathlib.Core.Path.{ap, ◌∙◌, ◌≡◌}
use Prim.Native.Nat.{ℕ, ◌<◌, ◌≤◌}
use native.Mathlib.Omega.{arith}
use borrow.Author.Rules.{rules}
use lib.ListN.{length}
use Rattle.lists.proofs.Filled.{filled_at, filled-length, filled_past}
use Rattle.lists.specs.Lists.{at, filled}
use Rattle.lists.specs.Stores.{Puts}
use Rattle.squares.specs.Squares.{square}
use Rattle.squares.proofs.begin_squares.Goals as goal

-- what is filled is put there from the start
puts_filled : (f : ℕ → ℕ) {n m : ℕ} {old new : List ℕ} → m ≡ n → n ≤ length old → new ≡ filled f n old → Puts f 0 m old new
puts_filled f {n} {m} {old} {new} e h q =
    record {
      long = ap length q ∙ filled-length f n old h;
      inside = λ k a l. ap (λ (x : List ℕ). at x k) q ∙ filled_at f n old k (omega arith);
      outside = λ k o. ap (λ (x : List ℕ). at x k) q ∙ filled_past f n old k (past k o);
    }
  where
    past : (k : ℕ) → (k < 0) ⊎ (m ≤ k) → n ≤ k
    past k (inl o) = omega arith
    past k (inr o) = omega arith

pub returns : goal.returns
returns c =
    let a = c.args in
    let q = c.saturating_sub-count.ensures in
    let some : length a.tile.heights.now ≤ length a.sq.now = c.requires.3 in
    puts_filled (square a.tile.neighbours a.tile.w a.tile.heights.now a.tile.labels.now) (omega arith) (omega arith)
    (c.fill.ensures (square a.tile.neighbours a.tile.w a.tile.heights.now a.tile.labels.now) (λ k h y p. search rules))
