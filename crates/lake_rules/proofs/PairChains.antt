-- Chains of pairs of neighbouring cells below a height are chains of lower cells, for the pairs of a set.
-- Assumes nothing.
use mathlib.Core.List.{List}
use mathlib.Core.Path.{subst}
use Prim.Native.Nat.{ℕ}
use native.Mathlib.Omega.{arith}
use Rattle.lake_rules.proofs.Joining.{touch_in, touch_is, Touching}
use Rattle.lake_rules.proofs.Lower.{lower_mem, mem_lower}
use Rattle.lake_rules.proofs.PairsBelow.{below_in, in_below}
use Rattle.lake_rules.specs.Groups.{lower, Touch, touches}
use Rattle.lake_rules.specs.Notes.{Under}
use Rattle.lake_rules.specs.Passing.{Joins, pairs_below}
use Rattle.lists.specs.Lists.{◌∈◌}
use Rattle.rules.proofs.Chains.{mono}
use Rattle.rules.specs.Chain.{back, forth, here}
use Rattle.rules.specs.Land.{Land}

-- only neighbouring cells of the set
module _ (L : Land) (S : List ℕ) {es : List Touch} (only : (x : Touch) → x ∈ es → Touching L S x) where
  pub to-under : (h : ℕ) {a b : ℕ} → Joins L (pairs_below L h es) a b → Under L S h a b
  to-under h c =
      mono (λ x m.
      let k = below_in L h es m in
      let T = only x k.0 in
      let l = k.1 in
      touch_in L (lower L h S) x.lesser x.greater
      (lower_mem L h T.one_in (omega arith)) (lower_mem L h T.other_in (omega arith)) T.ordered T.beside) c

  -- a chain from a cell of the set stays in the set
  pub chain_in : (h : ℕ) {a b : ℕ} → a ∈ S → Joins L (pairs_below L h es) a b → b ∈ S
  chain_in h m (here e) = subst (λ (z : ℕ). z ∈ S) e m
  chain_in h m (forth x i e c) = chain_in h (only x (below_in L h es i).0).other_in c
  chain_in h m (back x i e c) = chain_in h (only x (below_in L h es i).0).one_in c

-- all of them
module _ (L : Land) (S : List ℕ) {es : List Touch} (all : (x : Touch) → x ∈ touches L S → x ∈ es) where
  pub from-under : (h : ℕ) {a b : ℕ} → Under L S h a b → Joins L (pairs_below L h es) a b
  from-under h c =
      mono (λ x m.
      let T = touch_is L (lower L h S) m in
      let a = mem_lower L h S T.one_in in
      let b = mem_lower L h S T.other_in in
      let u = a.1 in
      let v = b.1 in
      in_below L h (all x (touch_in L S x.lesser x.greater a.0 b.0 T.ordered T.beside)) (omega arith)) c
