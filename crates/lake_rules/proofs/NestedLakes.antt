-- Lakes however they nest: each is a lake in the set of wet cells, every cell of it lies below its level, and it is one group; and the list of
-- lakes lists each of them, and nothing else.
-- Assumes nothing.
use mathlib.Core.List.Memᴰ.{append_cases as in-append}
use mathlib.Core.List.Memᴰ.{cases_cons as in-cases}
use mathlib.Core.List.Memᴰ.{head as in_head}
use mathlib.Core.List.{List}
use mathlib.Core.List.Memᴰ.{append_left as in_left}
use mathlib.Core.List.Memᴰ.{append_right as in_right}
use mathlib.Core.List.Memᴰ.{not-nil as in-none}
use mathlib.Core.List.{[], ◌∷◌}
use mathlib.Core.Logic.{inl, inr, ◌⊎◌}
use mathlib.Core.Path.{refl, subst, sym, ◌≡◌}
use Prim.Native.Nat.{suc, zero, ℕ, ◌<◌, ◌≤◌}
use native.Mathlib.Omega.{arith}
use lib.ListN.{length}
use Rattle.lake_rules.proofs.Apart.{two_apart}
use Rattle.lake_rules.proofs.Flags.{lake-inside, stay}
use Rattle.lake_rules.proofs.GroupsPart.{groups_ascending, groups-not_empty}
use Rattle.lake_rules.proofs.InsideLakes.{inside-level-lower}
use Rattle.lake_rules.proofs.Joining.{OnLand}
use Rattle.lake_rules.proofs.Lower.{lower-all, lower_ascending, mem_lower}
use Rattle.lake_rules.proofs.OutermostLakes.{outermost-lake}
use Rattle.lake_rules.proofs.Splits.{inside_fewer, lakes_of_lem}
use Rattle.lake_rules.proofs.WetCells.{wet_ascending, wet_on_land}
use Rattle.lake_rules.specs.Groups.{groups, lower, touches, touching}
use Rattle.lake_rules.specs.Lakes.{inside, Lake, lake_of, lakes, lakes_of, level_of, outermost, split_height, wet_cells}
use Rattle.lake_rules.specs.LocalLevels.{Local}
use Rattle.lake_rules.specs.Nested.{LakeOn, outer, within}
use Rattle.lake_rules.specs.Notes.{LakeIn}
use Rattle.lists.proofs.Ascending.{ascending_first}
use Rattle.lists.proofs.Flat.{flat_holds, flat_member}
use Rattle.lists.proofs.Tests.{lt_or_ge}
use Rattle.lists.specs.Ascending.{Ascending}
use Rattle.lists.specs.Lists.{at, flat, ◌∈◌}
use Rattle.rules.specs.Chain.{Chain}
use Rattle.rules.specs.Land.{Land}

-- a lake in a set is one group: no water is lowered yet
pub lake-one-group : (L : Land) (S : List ℕ) → OnLand L S → {level : ℕ} {s : List ℕ} → LakeIn L S level s → Ascending s
    → length (groups L s) ≤ 1
lake-one-group L S on {level} {s} K u = go (lt_or_ge 1 (length (groups L s)))
  where
    cell : (c : ℕ) → c ∈ s → (c ∈ S) × (L.height c < level)
    cell c m = mem_lower L level S (K.sub c m)

    chain : {a b : ℕ} → a ∈ s → b ∈ s → Chain touching (touches L s) a b
    chain {a} {b} i j =
        subst (λ (z : List ℕ). Chain touching (touches L z) a b) (lower-all L level s (λ c m. (cell c m).1))
        (stay L S on K (omega arith) i (K.joined a b i j))

    go : (1 < length (groups L s)) ⊎ (length (groups L s) ≤ 1) → length (groups L s) ≤ 1
    go (inl l) = let r = two_apart L s (λ c m. on c (cell c m).0) u l in absurd (r.4 (chain r.2 r.3))
    go (inr l) = l

module _ (L : Land) (levels : List ℕ) where
  pub lake_ascending : {level : ℕ} {s : List ℕ} → LakeOn L levels level s → Ascending s
  unfolding outermost inside
  lake_ascending (outer m e) = groups_ascending L (wet_cells L levels) (wet_ascending L levels) m
  lake_ascending (within {around = a} {z = z} k m e) =
      groups_ascending L (lower L (split_height L a z) z) (lower_ascending L (split_height L a z) z (lake_ascending k)) m

  pub lake-not_empty : {level : ℕ} {s : List ℕ} → LakeOn L levels level s → 0 < length s
  unfolding outermost inside
  lake-not_empty (outer m e) = groups-not_empty L (wet_cells L levels) (wet_ascending L levels) m
  lake-not_empty (within {around = a} {z = z} k m e) =
      groups-not_empty L (lower L (split_height L a z) z) (lower_ascending L (split_height L a z) z (lake_ascending k)) m

  -- the first cell is the least
  pub lake-first : {level : ℕ} {s : List ℕ} → LakeOn L levels level s → {c : ℕ} → c ∈ s → at s 0 ≤ c
  lake-first {s = s} k m = ascending_first s (lake_ascending k) m

  module _ (K : Local L levels) where
    -- each is a lake in the set of wet cells, a largest group of those lower than its level
    pub lake_in : {level : ℕ} {s : List ℕ} → LakeOn L levels level s → LakeIn L (wet_cells L levels) level s
    unfolding inside
    lake_in {s = s} (outer m e) = subst (λ (t : ℕ). LakeIn L (wet_cells L levels) t s) (sym e) (outermost-lake L levels K m)
    lake_in {s = s} (within {around = a} {z = z} k m e) =
        let l : split_height L a z < a = inside-level-lower L a z m in
        subst (λ (t : ℕ). LakeIn L (wet_cells L levels) t s) (sym e)
        (lake-inside L (wet_cells L levels) (wet_on_land L levels) (lake_in k) (split_height L a z) (omega arith) m)

    -- every cell lies below the lake's level
    pub lake-below : {level : ℕ} {s : List ℕ} → LakeOn L levels level s → (c : ℕ) → c ∈ s → L.height c < level
    lake-below {level} k c m = (mem_lower L level (wet_cells L levels) ((lake_in k).sub c m)).1

  -- what is listed of a lake is what is listed of a lake of the land
  listed_of : (n level : ℕ) (s : List ℕ) → length s < n → LakeOn L levels level s → (x : Lake) → x ∈ lakes_of L level s
      → (t : ℕ) × (z : List ℕ) × LakeOn L levels t z × (x ≡ lake_of L t z)
  listed_of zero level s l k x m = absurd (omega arith)
  listed_of (suc n) level s l k x m =
      go (in-append (flat (lakes_of L h) (inside L level s)) (subst (λ (y : List Lake). x ∈ y) (lakes_of_lem L level s) m)) (listed_of n h)
    where
      h : ℕ
      h = split_height L level s

      Found : Type 0
      Found = (t : ℕ) × (z : List ℕ) × LakeOn L levels t z × (x ≡ lake_of L t z)

      own : (x ≡ lake_of L level s) ⊎ (x ∈ []) → Found
      own (inl e) = (level, s, k, e)
      own (inr i) = absurd (in-none i)

      go : (x ∈ flat (lakes_of L h) (inside L level s)) ⊎ (x ∈ lake_of L level s ∷ [])
          → ((g : List ℕ) → length g < n → LakeOn L levels h g → (y : Lake) → y ∈ lakes_of L h g
          → (t : ℕ) × (z : List ℕ) × LakeOn L levels t z × (y ≡ lake_of L t z))
          → Found
      go (inl i) ih =
          let r = flat_member (lakes_of L h) (inside L level s) i in
          let f : length r.0 < length s = inside_fewer L level s r.1 in
          ih r.0 (omega arith) (within k r.1 refl) x r.2
      go (inr i) ih = own (in-cases i)

  -- only lakes of the land are listed
  pub listed_is-lake : {x : Lake} → x ∈ lakes L levels → (t : ℕ) × (s : List ℕ) × LakeOn L levels t s × (x ≡ lake_of L t s)
  unfolding lakes
  listed_is-lake {x} m =
      let r = flat_member (λ s. lakes_of L (level_of levels s) s) (outermost L levels) m in
      listed_of (suc (length r.0)) (level_of levels r.0) r.0 (omega arith) (outer r.1 refl) x r.2

  -- and all of them are
  all_listed : {level : ℕ} {s : List ℕ} → LakeOn L levels level s → {x : Lake} → x ∈ lakes_of L level s → x ∈ lakes L levels
  unfolding lakes
  all_listed {s = s} (outer m e) {x} i =
      flat_holds (λ s. lakes_of L (level_of levels s) s) m (subst (λ (t : ℕ). x ∈ lakes_of L t s) e i)
  all_listed {s = s} (within {around = a} {z = z} k m e) {x} i =
      all_listed k
      (subst (λ (y : List Lake). x ∈ y) (sym (lakes_of_lem L a z))
      (in_left (lake_of L a z ∷ []) (flat_holds (lakes_of L (split_height L a z)) m (subst (λ (t : ℕ). x ∈ lakes_of L t s) e i))))

  pub lake-is_listed : {level : ℕ} {s : List ℕ} → LakeOn L levels level s → lake_of L level s ∈ lakes L levels
  lake-is_listed {level} {s} k =
      all_listed k
      (subst (λ (y : List Lake). lake_of L level s ∈ y) (sym (lakes_of_lem L level s))
      (in_right (flat (lakes_of L (split_height L level s)) (inside L level s)) (in_head refl)))
