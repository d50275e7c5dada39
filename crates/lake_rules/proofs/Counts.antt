-- There are no more lakes than wet cells: each split leaves a cell out of the lakes inside, and each of these has a cell of its own.
-- Assumes nothing.
use mathlib.Core.List.{[], List, map, ◌∷◌}
use mathlib.Core.Logic.{inl, inr, ◌⊎◌}
use mathlib.Core.Path.{ap, subst, sym, ◌≡◌}
use Prim.Native.Nat.{suc, zero, ℕ, ◌<◌, ◌≤◌}
use native.Mathlib.Omega.{arith}
use lib.Dec.{ltb}
use lib.ListN.{length, length-append}
use borrow.Author.Tests.{le-ltb}
use Rattle.lake_rules.proofs.GroupsPart.{groups_ascending, groups_lengths, groups-not_empty}
use Rattle.lake_rules.proofs.InsideLakes.{never_split_none}
use Rattle.lake_rules.proofs.Lower.{lower_ascending}
use Rattle.lake_rules.proofs.Parts.{splits_or_not, Splitting}
use Rattle.lake_rules.proofs.Splits.{inside_fewer, lakes_of_lem}
use Rattle.lake_rules.proofs.WetCells.{wet_ascending}
use Rattle.lake_rules.specs.Groups.{lower}
use Rattle.lake_rules.specs.Lakes.{inside, Lake, lake_of, lakes, lakes_of, level_of, outermost, split_height, wet_cells}
use Rattle.lists.proofs.Flat.{flat-length}
use Rattle.lists.proofs.Keep.{keep-length, keep-length-drop}
use Rattle.lists.proofs.Range.{range_length}
use Rattle.lists.specs.Ascending.{Ascending}
use Rattle.lists.specs.Lists.{flat, sum, upto}
use Rattle.rules.specs.Land.{Land}

module _ (L : Land) where
  -- the cells of all lakes inside are fewer than the lake's
  inside-cells : (level : ℕ) (s : List ℕ) → Ascending s → 0 < length s → sum (map length (inside L level s)) < length s
  unfolding inside lower
  inside-cells level s u n = go (splits_or_not L level s)
    where
      h : ℕ
      h = split_height L level s

      e : sum (map length (inside L level s)) ≡ length (lower L h s)
      e = groups_lengths L (lower L h s) (lower_ascending L h s u)

      go : (h ≡ 0) ⊎ Splitting L level s → sum (map length (inside L level s)) < length s
      go (inl z) =
          let q : sum (map length (inside L level s)) ≡ 0 = ap (λ (l : List (List ℕ)). sum (map length l)) (never_split_none L level s z) in
          omega arith
      go (inr p) =
          let q = p.height in
          let f : length (lower L h s) < length s =
          keep-length-drop (λ c. ltb (L.height c) h) p.cell_in_fact (le-ltb (L.height p.cell) h (omega arith)) in
          let z : sum (map length (inside L level s)) ≡ length (lower L h s) = e in
          omega arith

  few_within : (k level : ℕ) (s : List ℕ) → length s < k → Ascending s → 0 < length s → length (lakes_of L level s) ≤ length s
  unfolding inside
  few_within zero level s l u n = absurd (omega arith)
  few_within (suc k) level s l u n =
      let h = split_height L level s in
      let a : length (flat (lakes_of L h) (inside L level s)) ≤ sum (map length (inside L level s)) =
      flat-length (lakes_of L h) (inside L level s) (λ g m.
      let f : length g < length s = inside_fewer L level s m in
      few_within k h g (omega arith) (groups_ascending L (lower L h s) (lower_ascending L h s u) m)
      (groups-not_empty L (lower L h s) (lower_ascending L h s u) m)) in
      let b : sum (map length (inside L level s)) < length s = inside-cells level s u n in
      subst (λ (z : List Lake). length z ≤ length s) (sym (lakes_of_lem L level s))
      (omega (arith, length-append (flat (lakes_of L h) (inside L level s)) (lake_of L level s ∷ [])))

  -- a lake and the lakes inside it are no more than its cells
  pub lakes_few : (level : ℕ) (s : List ℕ) → Ascending s → 0 < length s → length (lakes_of L level s) ≤ length s
  lakes_few level s u n = few_within (suc (length s)) level s (omega arith) u n

  -- all lakes are no more than the wet cells, nor than the cells
  pub lakes_at-most-wet : (levels : List ℕ) → length (lakes L levels) ≤ length (wet_cells L levels)
  unfolding lakes outermost
  lakes_at-most-wet levels =
      let a : length (lakes L levels) ≤ sum (map length (outermost L levels)) =
      flat-length (λ s. lakes_of L (level_of levels s) s) (outermost L levels) (λ s m.
      lakes_few (level_of levels s) s (groups_ascending L (wet_cells L levels) (wet_ascending L levels) m)
      (groups-not_empty L (wet_cells L levels) (wet_ascending L levels) m)) in
      let b : sum (map length (outermost L levels)) ≡ length (wet_cells L levels) = groups_lengths L (wet_cells L levels) (wet_ascending L levels) in
      omega arith

  pub lakes_at-most-cells : (levels : List ℕ) → length (lakes L levels) ≤ L.cells
  unfolding wet_cells
  lakes_at-most-cells levels =
      let a : length (lakes L levels) ≤ length (wet_cells L levels) = lakes_at-most-wet levels in
      let b : length (wet_cells L levels) ≤ length (upto L.cells) = keep-length _ (upto L.cells) in
      let c : length (upto L.cells) ≡ L.cells = range_length L.cells 0 in
      omega arith
