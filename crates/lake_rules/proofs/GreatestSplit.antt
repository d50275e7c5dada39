-- "Lower the water to the greatest height h, below the lake's level, at which its cells lower than h form two or more groups": the split's
-- height is the greatest of all whole numbers below the level that part the lake, and 0 exactly if none does.
-- Assumes nothing.
use mathlib.Core.List.{List, map}
use mathlib.Core.Logic.{inl, inr, ◌⊎◌}
use mathlib.Core.Path.{ap, ◌∙◌, ◌≡◌}
use Prim.Native.Nat.{suc, ℕ, ◌-◌, ◌<◌, ◌≤◌}
use native.Mathlib.Omega.{arith}
use lib.ListN.{length}
use Rattle.lake_rules.proofs.InsideLakes.{never_split_none}
use Rattle.lake_rules.proofs.Joining.{group_is}
use Rattle.lake_rules.proofs.Lower.{mem_lower}
use Rattle.lake_rules.proofs.NestedLakes.{lake_ascending, lake-below, lake_in, lake-one-group}
use Rattle.lake_rules.proofs.Parts.{splits_or_not, Splitting}
use Rattle.lake_rules.proofs.SplitHeight.{split_greatest}
use Rattle.lake_rules.proofs.Splits.{depth_of}
use Rattle.lake_rules.proofs.WetCells.{wet_on_land}
use Rattle.lake_rules.specs.Groups.{groups, lower}
use Rattle.lake_rules.specs.Lakes.{depth, split_height, wet_cells}
use Rattle.lake_rules.specs.LocalLevels.{Local}
use Rattle.lake_rules.specs.Nested.{LakeOn}
use Rattle.lists.proofs.At.{member_none}
use Rattle.lists.proofs.Tests.{lt_or_ge}
use Rattle.lists.specs.Greatest.{greatest}
use Rattle.rules.specs.Land.{Land}

module _ (L : Land) where
  -- where the split's height isn't 0, it does part the lake
  pub split_parts : (level : ℕ) (s : List ℕ) → 0 < split_height L level s → Splitting L level s
  split_parts level s l = go (splits_or_not L level s)
    where
      go : (split_height L level s ≡ 0) ⊎ Splitting L level s → Splitting L level s
      go (inl e) = absurd (omega arith)
      go (inr p) = p

  -- "A lake that never splits has depth 1"
  pub never_split_depth : (level : ℕ) (s : List ℕ) → split_height L level s ≡ 0 → depth L level s ≡ 1
  never_split_depth level s e =
      depth_of L level s ∙ ap (λ (z : List (List ℕ)). suc (greatest (map (depth L (split_height L level s)) z))) (never_split_none L level s e)

  -- no cell is lower than 0
  none-below_0 : (s : List ℕ) → length (groups L (lower L 0 s)) ≡ 0
  none-below_0 s =
      ap length (member_none (groups L (lower L 0 s)) (λ g m.
      let G = group_is L (lower L 0 s) m in
      let l : L.height G.least < 0 = (mem_lower L 0 s G.least_in_fact).1 in
      omega arith))

  module _ (levels : List ℕ) (K : Local L levels) {level : ℕ} {s : List ℕ} (k : LakeOn L levels level s) where
    -- no number below the level that parts the lake is greater
    pub split_is-greatest : (h : ℕ) → h < level → 2 ≤ length (groups L (lower L h s)) → h ≤ split_height L level s
    split_is-greatest h l two =
        split_greatest L level s (lake-below L levels K k)
        (lake-one-group L (wet_cells L levels) (wet_on_land L levels) (lake_in L levels K k) (lake_ascending L levels k))
        (level - suc h) h (omega arith) two

    -- where it is 0, none parts the lake
    pub never_split_no_height : split_height L level s ≡ 0 → (h : ℕ) → h < level → length (groups L (lower L h s)) ≤ 1
    never_split_no_height e h l = go (lt_or_ge 1 (length (groups L (lower L h s))))
      where
        go : (1 < length (groups L (lower L h s))) ⊎ (length (groups L (lower L h s)) ≤ 1) → length (groups L (lower L h s)) ≤ 1
        go (inl two) =
            let a : h ≤ split_height L level s = split_is-greatest h l two in
            let z : h ≡ 0 = omega arith in
            let b : length (groups L (lower L h s)) ≡ 0 = ap (λ (n : ℕ). length (groups L (lower L n s))) z ∙ none-below_0 s in
            absurd (omega arith)
        go (inr few) = few
