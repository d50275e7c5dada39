-- Every lake that is listed fits: its cells are cells of the land, its level is one of the land's levels or below one, and so its volume
-- is bounded too.
-- Assumes nothing.
use mathlib.Core.List.{List, map}
use mathlib.Core.Path.{subst, sym}
use Prim.Native.Nat.{ℕ, ◌*◌, ◌-◌, ◌<◌, ◌≤◌}
use native.Mathlib.Omega.{arith}
use lib.ListN.{length}
use Rattle.lake_rules.proofs.GroupsPart.{groups_cell}
use Rattle.lake_rules.proofs.InsideLakes.{inside_cell, inside-level-lower}
use Rattle.lake_rules.proofs.Joining.{OnLand}
use Rattle.lake_rules.proofs.NestedLakes.{lake_ascending, lake-not_empty, listed_is-lake}
use Rattle.lake_rules.proofs.WetCells.{wet_ascending, wet_on_land}
use Rattle.lake_rules.specs.Fits.{LakeFits, LakesFit}
use Rattle.lake_rules.specs.Lakes.{Lake, lake_of, lakes, outermost, split_height, volume_of, wet_cells}
use Rattle.lake_rules.specs.Nested.{LakeOn, outer, within}
use Rattle.lake_rules.specs.Notes.{highest}
use Rattle.lists.proofs.Ascending.{ascending_once}
use Rattle.lists.proofs.At.{at_member}
use Rattle.lists.proofs.Once.{once_le}
use Rattle.lists.proofs.Range.{range_length, upto_holds}
use Rattle.lists.proofs.Sum.{sum-most}
use Rattle.lists.specs.Lists.{at, sum, upto}
use Rattle.rules.specs.Land.{Land}

-- on a larger tile too
pub fits_more : {n m : ℕ} {ls : List Lake} → n ≤ m → LakesFit n ls → LakesFit m ls
fits_more l f x i =
    let g = f x i in
    record {
      level_fits = g.level_fits;
      count_fits = omega (arith, g.count_fits);
      volume_fits = omega (arith, g.volume_fits);
      least_fits = omega (arith, g.least_fits);
    }

module _ (L : Land) (levels : List ℕ) where
  lake_on_land : {level : ℕ} {s : List ℕ} → LakeOn L levels level s → OnLand L s
  unfolding outermost
  lake_on_land (outer m e) c i = wet_on_land L levels c (groups_cell L (wet_cells L levels) (wet_ascending L levels) m i)
  lake_on_land (within {around = a} {z = z} k m e) c i = lake_on_land k c (inside_cell L a z (lake_ascending L levels k) m i).0

  lake_few : {level : ℕ} {s : List ℕ} → LakeOn L levels level s → length s ≤ L.cells
  lake_few {s = s} k =
      let l : length s ≤ length (upto L.cells) =
      once_le s (upto L.cells) (ascending_once s (lake_ascending L levels k)) (λ c m. upto_holds (lake_on_land k c m)) in
      omega (arith, range_length L.cells 0)

  module _ (low : (c : ℕ) → c < L.cells → at levels c ≤ highest) where
    lake-low : {level : ℕ} {s : List ℕ} → LakeOn L levels level s → level ≤ highest
    lake-low {s = s} (outer m e) =
        let k : LakeOn L levels _ s = outer m e in
        let h : at levels (at s 0) ≤ highest = low (at s 0) (lake_on_land k (at s 0) (at_member s 0 (lake-not_empty L levels k))) in
        omega arith
    lake-low (within {around = a} {z = z} k m e) =
        let h : a ≤ highest = lake-low k in
        let l : split_height L a z < a = inside-level-lower L a z m in
        omega arith

    lake_fits : {level : ℕ} {s : List ℕ} → LakeOn L levels level s → LakeFits L.cells (lake_of L level s)
    unfolding lake_of volume_of
    lake_fits {level} {s} k =
        let l : level ≤ highest = lake-low k in
        let n : length s ≤ L.cells = lake_few k in
        let v : sum (map (λ c. level - L.height c) s) ≤ highest * length s =
        sum-most (λ c. level - L.height c) highest s (λ c i. omega arith) in
        record {
          level_fits = l;
          count_fits = n;
          volume_fits = omega arith;
          least_fits = lake_on_land k (at s 0) (at_member s 0 (lake-not_empty L levels k));
        }

    -- every lake of a land whose levels are at most 16,000,000
    pub lakes_fit : LakesFit L.cells (lakes L levels)
    lakes_fit x m = let r = listed_is-lake L levels m in subst (LakeFits L.cells) (sym r.3) (lake_fits r.2)
