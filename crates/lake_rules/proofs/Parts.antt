-- A height that parts a lake, both ways, and a lake's split: it is 0, or the height of one of its cells, which parts it.
-- Assumes nothing.
use mathlib.Core.Bool.{true}
use mathlib.Core.List.{List, map}
use mathlib.Core.Logic.{inl, inr, ◌⊎◌}
use mathlib.Core.Path.{◌≡◌}
use Prim.Native.Nat.{ℕ, ◌<◌, ◌≤◌}
use lib.Dec.{leb, ltb}
use lib.ListN.{length}
use borrow.Author.Tests.{le-leb, leb-true, lt-ltb, ltb-true}
use Rattle.lake_rules.specs.Groups.{groups, lower}
use Rattle.lake_rules.specs.Lakes.{inside, parts, split_height}
use Rattle.lists.proofs.Greatest.{greatest_mem}
use Rattle.lists.proofs.Keep.{keep_member}
use Rattle.lists.proofs.Map.{map_member}
use Rattle.lists.proofs.Tests.{and_both, and_left, and_right}
use Rattle.lists.specs.Lists.{keep, ◌∈◌}
use Rattle.rules.specs.Land.{Land}

module _ (L : Land) (level : ℕ) (s : List ℕ) where
  pub parts_is : (h : ℕ) → parts L level s h ≡ true → (h < level) × (2 ≤ length (groups L (lower L h s)))
  unfolding parts
  parts_is h e =
      let many = length (groups L (lower L h s)) in
      (ltb-true h level (and_left (ltb h level) (leb 2 many) e), leb-true 2 many (and_right (ltb h level) (leb 2 many) e))

  pub parts_holds : (h : ℕ) → h < level → 2 ≤ length (groups L (lower L h s)) → parts L level s h ≡ true
  unfolding parts
  parts_holds h l two =
      let many = length (groups L (lower L h s)) in and_both (ltb h level) (leb 2 many) (lt-ltb h level l) (le-leb 2 many two)

  -- the lake splits: at the height of one of its cells, below its level, into two or more
  pub record Splitting : Type 0 where
    pub cell : ℕ
    pub cell_in_fact : cell ∈ s
    pub height : split_height L level s ≡ L.height cell
    pub below : split_height L level s < level
    pub two : 2 ≤ length (inside L level s)

  pub splits_or_not : (split_height L level s ≡ 0) ⊎ Splitting
  unfolding split_height inside
  splits_or_not = go (greatest_mem (keep (parts L level s) (map L.height s)))
    where
      h : ℕ
      h = split_height L level s

      go : (h ≡ 0) ⊎ (h ∈ keep (parts L level s) (map L.height s)) → (h ≡ 0) ⊎ Splitting
      go (inl e) = inl e
      go (inr m) =
          let k = keep_member (parts L level s) (map L.height s) m in
          let c = map_member L.height s k.0 in
          let p = parts_is h k.1 in
          inr (record { cell = c.0; cell_in_fact = c.1; height = c.2; below = p.0; two = p.1 })
