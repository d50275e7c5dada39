-- The cells of a set that are lower than a height, and chains of them.
-- Assumes nothing.
use mathlib.Core.List.{List}
use mathlib.Core.Path.{◌≡◌}
use Prim.Native.Nat.{ℕ, ◌<◌, ◌≤◌}
use native.Mathlib.Omega.{arith}
use lib.Dec.{ltb}
use borrow.Author.Tests.{lt-ltb, ltb-true}
use Rattle.lake_rules.proofs.Joining.{touches_more}
use Rattle.lake_rules.specs.Groups.{lower}
use Rattle.lake_rules.specs.Notes.{Under}
use Rattle.lists.proofs.Ascending.{ascending_keep}
use Rattle.lists.proofs.Keep.{keep_all, keep_holds, keep_member}
use Rattle.lists.specs.Ascending.{Ascending}
use Rattle.lists.specs.Lists.{◌∈◌}
use Rattle.rules.proofs.Chains.{mono}
use Rattle.rules.specs.Land.{Land}

module _ (L : Land) where
  pub mem_lower : (h : ℕ) (s : List ℕ) {c : ℕ} → c ∈ lower L h s → (c ∈ s) × (L.height c < h)
  unfolding lower
  mem_lower h s {c} m = let k = keep_member (λ c. ltb (L.height c) h) s m in (k.0, ltb-true (L.height c) h k.1)

  pub lower_mem : (h : ℕ) {s : List ℕ} {c : ℕ} → c ∈ s → L.height c < h → c ∈ lower L h s
  unfolding lower
  lower_mem h {s} {c} m l = keep_holds (λ c. ltb (L.height c) h) m (lt-ltb (L.height c) h l)

  pub lower_ascending : (h : ℕ) (s : List ℕ) → Ascending s → Ascending (lower L h s)
  unfolding lower
  lower_ascending h s u = ascending_keep (λ c. ltb (L.height c) h) s u

  -- every cell is lower
  pub lower-all : (h : ℕ) (s : List ℕ) → ((c : ℕ) → c ∈ s → L.height c < h) → lower L h s ≡ s
  unfolding lower
  lower-all h s b = keep_all (λ c. ltb (L.height c) h) s (λ c m. lt-ltb (L.height c) h (b c m))

  -- a chain in a set, below a height, is one in a larger set, below a greater height
  pub under_more : {s z : List ℕ} {h t a b : ℕ} → ((c : ℕ) → c ∈ s → c ∈ z) → h ≤ t → Under L s h a b → Under L z t a b
  under_more {s} {z} {h} {t} f l c =
      mono (touches_more L (λ d m. let k = mem_lower h s m in let u = k.1 in lower_mem t (f d k.0) (omega arith))) c
