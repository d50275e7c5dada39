-- Stretches of a list: what stands in them, and lists put together from them.
-- Assumes nothing.
use mathlib.Core.List.{List, ◌++◌}
use mathlib.Core.Path.{◌≡◌}
use Prim.Native.Nat.{ℕ, ◌+◌, ◌≤◌}
use native.Mathlib.Omega.{arith}
use lib.ListN.{drop, length, length-drop, take-append-drop}
use lib.Seq.{drop_at, drop-drop, length-take-le, take_at}
use Rattle.lists.specs.Lists.{stretch}

module _ {A : Type 0} where
  pub stretch-length : (from n : ℕ) (l : List A) → from + n ≤ length l → length (stretch from n l) ≡ n
  stretch-length from n l h = length-take-le n (drop from l) (simp length-drop (omega arith))

  -- between its front p and its rest q
  pub stretch-at : (p l q : List A) (from n : ℕ) → length p ≡ from → length l ≡ n → stretch from n (p ++ (l ++ q)) ≡ l
  stretch-at p l q from n e f = rw (drop_at p (l ++ q) from e, take_at l q n f)

  -- a list from its stretches, the last first: p is the stretch from t to u, and q is what follows
  pub stretch-join : (l : List A) (t n u : ℕ) {p q : List A} → t + n ≡ u → p ≡ stretch t n l → q ≡ drop u l → p ++ q ≡ drop t l
  stretch-join l t n u e f g = rw (f, g, ← e, ← drop-drop, take-append-drop)
