-- The pairs of neighbouring cells below a height.
-- Assumes nothing.
use mathlib.Core.List.{List}
use Prim.Native.Nat.{ℕ, ◌<◌}
use lib.Dec.{ltb}
use borrow.Author.Tests.{lt-ltb, ltb-true}
use Rattle.lake_rules.specs.Groups.{Touch}
use Rattle.lake_rules.specs.Passing.{pairs_below, top}
use Rattle.lists.proofs.Keep.{keep_holds, keep_member}
use Rattle.lists.specs.Lists.{◌∈◌}
use Rattle.rules.specs.Land.{Land}

module _ (L : Land) where
  pub below_in : (h : ℕ) (es : List Touch) {x : Touch} → x ∈ pairs_below L h es → (x ∈ es) × (top L x < h)
  below_in h es {x} m = let k = keep_member (λ x. ltb (top L x) h) es m in (k.0, ltb-true (top L x) h k.1)

  pub in_below : (h : ℕ) {es : List Touch} {x : Touch} → x ∈ es → top L x < h → x ∈ pairs_below L h es
  in_below h {es} {x} m l = keep_holds (λ x. ltb (top L x) h) m (lt-ltb (top L x) h l)
