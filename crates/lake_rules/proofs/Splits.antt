-- Lakes inside a lake have fewer cells, so a lake has fewer splits than cells: its list and its depth, by those of the lakes inside it.
-- Assumes nothing.
use mathlib.Core.List.{[], List, map, ◌++◌, ◌∷◌}
use mathlib.Core.Logic.{inl, inr, ◌⊎◌}
use mathlib.Core.Path.{ap, refl, subst, sym, ◌∙◌, ◌≡◌}
use Prim.Native.Nat.{suc, zero, ℕ, ◌<◌, ◌≤◌}
use native.Mathlib.Nat.{le_refl}
use native.Mathlib.Omega.{arith}
use lib.Dec.{ltb}
use lib.ListN.{length}
use borrow.Author.Tests.{le-ltb}
use Rattle.lake_rules.proofs.Joining.{group_is, Grouped}
use Rattle.lake_rules.proofs.Lower.{mem_lower}
use Rattle.lake_rules.proofs.Parts.{splits_or_not, Splitting}
use Rattle.lake_rules.specs.Groups.{labelled, lower}
use Rattle.lake_rules.specs.Lakes.{depth, depth_within, inside, Lake, lake_of, lakes_of, lakes_within, split_height}
use Rattle.lists.proofs.At.{member_none}
use Rattle.lists.proofs.Flat.{flat_same}
use Rattle.lists.proofs.Keep.{keep-length, keep-length-drop}
use Rattle.lists.proofs.Map.{map_same}
use Rattle.lists.specs.Greatest.{greatest}
use Rattle.lists.specs.Lists.{flat, ◌∈◌}
use Rattle.rules.specs.Land.{Land}

module _ (L : Land) where
  pub group-length : (s : List ℕ) {g : List ℕ} → Grouped L s g → length g ≤ length s
  unfolding labelled
  group-length s G = subst (λ (z : List ℕ). length z ≤ length s) (sym G.is) (keep-length _ s)

  -- each lake inside has fewer cells
  pub inside_fewer : (level : ℕ) (s : List ℕ) {g : List ℕ} → g ∈ inside L level s → length g < length s
  unfolding inside lower
  inside_fewer level s {g} m = go (splits_or_not L level s)
    where
      h : ℕ
      h = split_height L level s

      G : Grouped L (lower L h s) g
      G = group_is L (lower L h s) m

      go : (h ≡ 0) ⊎ Splitting L level s → length g < length s
      go (inl e) = let l : L.height G.least < h = (mem_lower L h s G.least_in_fact).1 in absurd (omega arith)
      go (inr p) =
          let e = p.height in
          let f : length (lower L h s) < length s =
          keep-length-drop (λ c. ltb (L.height c) h) p.cell_in_fact (le-ltb (L.height p.cell) h (omega arith)) in
          let l : length g ≤ length (lower L h s) = group-length (lower L h s) G in
          omega arith

  -- so a lake without cells has none inside
  none_inside : (level : ℕ) (s : List ℕ) → length s ≤ 0 → inside L level s ≡ []
  none_inside level s a =
      member_none (inside L level s) (λ g m. let f : length g < length s = inside_fewer level s m in omega arith)

  -- as many splits as cells are enough
  pub lakes_enough : (k j level : ℕ) (s : List ℕ) → length s ≤ k → length s ≤ j → lakes_within L k level s ≡ lakes_within L j level s
  unfolding lakes_within
  lakes_enough zero zero level s a b = refl
  lakes_enough zero (suc j) level s a b = rw (none_inside level s a)
  lakes_enough (suc k) zero level s a b = rw (none_inside level s b)
  lakes_enough (suc k) (suc j) level s a b =
      let h = split_height L level s in
      ap (λ (z : List Lake). z ++ (lake_of L level s ∷ []))
      (flat_same (lakes_within L k h) (lakes_within L j h) (inside L level s)
      (λ g m. let f : length g < length s = inside_fewer level s m in lakes_enough k j h g (omega arith) (omega arith)))

  pub depth_enough : (k j level : ℕ) (s : List ℕ) → length s ≤ k → length s ≤ j → depth_within L k level s ≡ depth_within L j level s
  unfolding depth_within
  depth_enough zero zero level s a b = refl
  depth_enough zero (suc j) level s a b = rw (none_inside level s a)
  depth_enough (suc k) zero level s a b = rw (none_inside level s b)
  depth_enough (suc k) (suc j) level s a b =
      let h = split_height L level s in
      ap (λ (z : List ℕ). suc (greatest z))
      (map_same (depth_within L k h) (depth_within L j h) (inside L level s)
      (λ g m. let f : length g < length s = inside_fewer level s m in depth_enough k j h g (omega arith) (omega arith)))

  -- the lakes of a lake, by those of the lakes inside it
  pub lakes_of_lem : (level : ℕ) (s : List ℕ)
      → lakes_of L level s ≡ flat (lakes_of L (split_height L level s)) (inside L level s) ++ (lake_of L level s ∷ [])
  unfolding lakes_of lakes_within
  lakes_of_lem level s =
      let h = split_height L level s in
      lakes_enough (length s) (suc (length s)) level s (le_refl _) (omega arith)
      ∙ ap (λ (z : List Lake). z ++ (lake_of L level s ∷ []))
      (flat_same (lakes_within L (length s) h) (λ g. lakes_within L (length g) h g) (inside L level s)
      (λ g m. let f : length g < length s = inside_fewer level s m in lakes_enough (length s) (length g) h g (omega arith) (le_refl _)))

  -- and its depth, by theirs
  pub depth_of : (level : ℕ) (s : List ℕ) → depth L level s ≡ suc (greatest (map (depth L (split_height L level s)) (inside L level s)))
  unfolding depth depth_within
  depth_of level s =
      let h = split_height L level s in
      depth_enough (length s) (suc (length s)) level s (le_refl _) (omega arith)
      ∙ ap (λ (z : List ℕ). suc (greatest z))
      (map_same (depth_within L (length s) h) (λ g. depth_within L (length g) h g) (inside L level s)
      (λ g m. let f : length g < length s = inside_fewer level s m in depth_enough (length s) (length g) h g (omega arith) (le_refl _)))
