-- The height of a lake's split is the greatest of all numbers below its level that part it, whether or not a cell has that height.
-- Assumes nothing.
use mathlib.Core.List.Memᴰ.{cases_cons as in-cases}
use mathlib.Core.List.Memᴰ.{head as in_head}
use mathlib.Core.List.Memᴰ.{not-nil as in-none}
use mathlib.Core.List.{[], List}
use mathlib.Core.List.Memᴰ.{tail as in_Tail}
use mathlib.Core.List.{map, ◌∷◌}
use mathlib.Core.Logic.{inl, inr, ◌⊎◌}
use mathlib.Core.Path.{ap, refl, subst, sym, ◌∙◌, ◌≡◌}
use Prim.Native.Nat.{suc, zero, ℕ, ◌+◌, ◌<◌, ◌≤◌}
use native.Mathlib.Omega.{arith}
use lib.ListN.{length}
use Rattle.lake_rules.proofs.Lower.{lower-all}
use Rattle.lake_rules.proofs.Parts.{parts_holds}
use Rattle.lake_rules.specs.Groups.{groups, lower}
use Rattle.lake_rules.specs.Lakes.{parts, split_height}
use Rattle.lists.proofs.Greatest.{greatest-most}
use Rattle.lists.proofs.Keep.{keep_holds, keep_same}
use Rattle.lists.proofs.Map.{map_holds}
use Rattle.lists.proofs.Tests.{eq_or_ne, same_ltb}
use Rattle.lists.specs.Lists.{keep, ◌∈◌}
use Rattle.rules.specs.Land.{Land}

module _ (L : Land) where
  -- a cell of the set is at height h, or none is
  abbrev Some : ℕ → List ℕ → Type 0
  Some h s = (c : ℕ) × (c ∈ s) × (L.height c ≡ h)

  abbrev None : ℕ → List ℕ → Type 0
  None h s = (c : ℕ) → c ∈ s → L.height c ≡ h → ⊥

  some_or_none : (h : ℕ) (s : List ℕ) → Some h s ⊎ None h s
  some_or_none h [] = inr (λ c m e. in-none m)
  some_or_none h (x ∷ xs) = go (eq_or_ne (L.height x) h) (some_or_none h xs)
    where
      two : (L.height x ≡ h → ⊥) → None h xs → (c : ℕ) → (c ≡ x) ⊎ (c ∈ xs) → L.height c ≡ h → ⊥
      two n r c (inl q) e = n (ap L.height (sym q) ∙ e)
      two n r c (inr m) e = r c m e

      go : (L.height x ≡ h) ⊎ (L.height x ≡ h → ⊥) → Some h xs ⊎ None h xs → Some h (x ∷ xs) ⊎ None h (x ∷ xs)
      go (inl e) r = inl (x, in_head refl, e)
      go (inr n) (inl r) = inl (r.0, in_Tail r.1, r.2)
      go (inr n) (inr r) = inr (λ c m. two n r c (in-cases m))

  -- where no cell is at h, the cells lower than h and than one more are the same
  none-there : (h : ℕ) (s : List ℕ) → None h s → lower L (suc h) s ≡ lower L h s
  unfolding lower
  none-there h s n =
      keep_same _ _ s (λ c m. same_ltb (L.height c) (suc h) (L.height c) h (less (L.height c) h (n c m)) (λ a. omega arith))
    where
      less : (a b : ℕ) → (a ≡ b → ⊥) → a < suc b → a < b
      less a b f l = omega arith

  at-a_cell : (level h : ℕ) (s : List ℕ) → h < level → 2 ≤ length (groups L (lower L h s)) → Some h s → h ≤ split_height L level s
  unfolding split_height
  at-a_cell level h s l two r =
      greatest-most (keep (parts L level s) (map L.height s))
      (keep_holds (parts L level s) (subst (λ (z : ℕ). z ∈ map L.height s) r.2 (map_holds L.height r.1))
      (parts_holds L level s h l two))

  module _ (level : ℕ) (s : List ℕ) (below : (c : ℕ) → c ∈ s → L.height c < level) (one : length (groups L s) ≤ 1) where
    -- by the number k of those above h and below the level
    pub split_greatest : (k h : ℕ) → h + suc k ≡ level → 2 ≤ length (groups L (lower L h s)) → h ≤ split_height L level s
    split_greatest zero h e two = go (some_or_none h s)
      where
        go : Some h s ⊎ None h s → h ≤ split_height L level s
        go (inl r) = at-a_cell level h s (omega arith) two r
        go (inr n) =
            let f : level ≡ suc h = omega arith in
            let q : lower L h s ≡ s = sym (none-there h s n) ∙ ap (λ (z : ℕ). lower L z s) (sym f) ∙ lower-all L level s below in
            let t : 2 ≤ length (groups L s) = subst (λ (z : List ℕ). 2 ≤ length (groups L z)) q two in
            absurd (omega arith)
    split_greatest (suc k) h e two = go (some_or_none h s) (split_greatest k (suc h) (omega arith))
      where
        go : Some h s ⊎ None h s → (2 ≤ length (groups L (lower L (suc h) s)) → suc h ≤ split_height L level s) → h ≤ split_height L level s
        go (inl r) ih = at-a_cell level h s (omega arith) two r
        go (inr n) ih =
            let t : suc h ≤ split_height L level s = ih (subst (λ (z : List ℕ). 2 ≤ length (groups L z)) (sym (none-there h s n)) two) in
            omega arith
