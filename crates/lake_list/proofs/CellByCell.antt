-- The greatest height of the flagged cells of a lake, cell by cell.
-- Assumes nothing.
use mathlib.Core.Bool.{Bool, cond, false, true}
use mathlib.Core.List.{[], List, map, ◌∷◌}
use mathlib.Core.Path.{refl, ◌≡◌}
use Prim.Native.Nat.{max, ℕ}
use native.Mathlib.Omega.{arith}
use lib.Dec.{eqb}
use Rattle.lake_list.specs.Measured.{flag_height}
use Rattle.lists.specs.Greatest.{greatest}
use Rattle.lists.specs.Lists.{at, keep}

-- the greatest height of flagged cells
pub greatest-flagged : (heights flags l : List ℕ)
    → greatest (map (flag_height heights flags) l) ≡ greatest (map (at heights) (keep (λ c. eqb (at flags c) 1) l))
greatest-flagged heights flags [] = refl
greatest-flagged heights flags (c ∷ cs) = go (eqb (at flags c) 1) (greatest-flagged heights flags cs)
  where
    kept : List ℕ
    kept = keep (λ c. eqb (at flags c) 1) cs

    go : (b : Bool) → greatest (map (flag_height heights flags) cs) ≡ greatest (map (at heights) kept)
        → max (cond b (at heights c) 0) (greatest (map (flag_height heights flags) cs)) ≡ greatest (map (at heights) (cond b (c ∷ kept) kept))
    go true e = rw e
    go false e = omega arith
