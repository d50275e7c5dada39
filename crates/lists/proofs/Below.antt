-- Lists whose entries are below a bound.
-- Assumes nothing.
use mathlib.Core.List.{[], List, ◌++◌, ◌∷◌}
use Prim.Native.Nat.{suc, zero, ℕ, ◌<◌}
use native.Mathlib.Omega.{arith}
use Rattle.lists.specs.Lists.{Below}

-- entries below b, from a first one and the others, and from two lists
pub below_cons : (b x : ℕ) (xs : List ℕ) → x < b → Below b xs → Below b (x ∷ xs)
below_cons b x xs h f zero l = h
below_cons b x xs h f (suc k) l = f k (omega arith)

pub below_append : (b : ℕ) (xs ys : List ℕ) → Below b xs → Below b ys → Below b (xs ++ ys)
below_append b [] ys f g = g
below_append b (x ∷ xs) ys f g =
    below_cons b x (xs ++ ys) (f 0 (omega arith)) (below_append b xs ys (λ k l. f (suc k) (omega arith)) g)
