-- "Each group is a lake inside it, at level h": a lake inside another is part of it, at a lower level, with fewer cells and less volume.
-- Assumes nothing.
use mathlib.Core.List.Memᴰ.{not-nil as in-none}
use mathlib.Core.List.{[], List, map}
use mathlib.Core.Logic.{inl, inr, ◌⊎◌}
use mathlib.Core.Path.{subst, sym, ◌≡◌}
use Prim.Native.Nat.{ℕ, ◌-◌, ◌<◌, ◌≤◌}
use native.Mathlib.Omega.{arith}
use lib.Dec.{ltb}
use Rattle.lake_rules.proofs.GroupsPart.{groups_cell, groups-not_empty}
use Rattle.lake_rules.proofs.Joining.{group_is}
use Rattle.lake_rules.proofs.Lower.{lower_ascending, mem_lower}
use Rattle.lake_rules.proofs.Parts.{splits_or_not, Splitting}
use Rattle.lake_rules.proofs.Splits.{inside_fewer}
use Rattle.lake_rules.specs.Groups.{labelled, lower}
use Rattle.lake_rules.specs.Lakes.{inside, split_height, volume_of}
use Rattle.lake_rules.specs.Nested.{LiesIn}
use Rattle.lists.proofs.At.{member_none}
use Rattle.lists.proofs.Sum.{sum-keep_le, sum_less}
use Rattle.lists.specs.Ascending.{Ascending}
use Rattle.lists.specs.Lists.{sum, ◌∈◌}
use Rattle.rules.specs.Land.{Land}

module _ (L : Land) (level : ℕ) (s : List ℕ) where
  abbrev h : ℕ
  h = split_height L level s

  -- a lake that never splits has none inside
  pub never_split_none : h ≡ 0 → inside L level s ≡ []
  unfolding inside
  never_split_none e =
      member_none (inside L level s) (λ g m.
      let G = group_is L (lower L h s) m in
      let l : L.height G.least < h = (mem_lower L h s G.least_in_fact).1 in
      omega arith)

  -- one with a lake inside splits
  inside_splits : {g : List ℕ} → g ∈ inside L level s → Splitting L level s
  inside_splits {g} m = go (splits_or_not L level s)
    where
      go : (h ≡ 0) ⊎ Splitting L level s → Splitting L level s
      go (inl e) = absurd (in-none (subst (λ (z : List (List ℕ)). g ∈ z) (never_split_none e) m))
      go (inr p) = p

  -- at a lower level
  pub inside-level-lower : {g : List ℕ} → g ∈ inside L level s → h < level
  inside-level-lower m = (inside_splits m).below

  module _ (u : Ascending s) {g : List ℕ} (m : g ∈ inside L level s) where
    -- each of its cells is one of the lake's, and lower than h
    pub inside_cell : {c : ℕ} → c ∈ g → (c ∈ s) × (L.height c < h)
    unfolding inside
    inside_cell i = mem_lower L h s (groups_cell L (lower L h s) (lower_ascending L h s u) m i)

    -- and some cell of the lake is none of its
    inside_misses : (c : ℕ) × (c ∈ s) × (c ∈ g → ⊥)
    inside_misses =
        let p = inside_splits m in
        (p.cell, p.cell_in_fact, λ i. let l : L.height p.cell < h = (inside_cell i).1 in let e = p.height in omega arith)

    -- it has less volume
    inside-less_volume : volume_of L h g < volume_of L level s
    unfolding volume_of inside labelled lower
    inside-less_volume =
        let a : sum (map (λ c. h - L.height c) g) < sum (map (λ c. level - L.height c) g) =
        sum_less _ _ g (λ c i.
        let l : L.height c < h = (inside_cell i).1 in
        let k : h < level = inside-level-lower m in
        omega arith) (groups-not_empty L (lower L h s) (lower_ascending L h s u) m) in
        let G = group_is L (lower L h s) m in
        let b : sum (map (λ c. level - L.height c) g) ≤ sum (map (λ c. level - L.height c) (lower L h s)) =
        subst (λ (z : List ℕ). sum (map (λ c. level - L.height c) z) ≤ sum (map (λ c. level - L.height c) (lower L h s))) (sym G.is)
        (sum-keep_le (λ c. level - L.height c) _ (lower L h s)) in
        let c : sum (map (λ c. level - L.height c) (lower L h s)) ≤ sum (map (λ c. level - L.height c) s) =
        sum-keep_le (λ c. level - L.height c) (λ c. ltb (L.height c) h) s in
        omega arith

    -- a lake inside another lies in it
    pub inside_lies : LiesIn L level s h g
    inside_lies =
        record {
          part = λ c i. (inside_cell i).0;
          misses = inside_misses;
          lower_level = inside-level-lower m;
          fewer = inside_fewer L level s m;
          less_volume = inside-less_volume;
        }
