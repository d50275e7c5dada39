-- Volumes add up: those of the outermost lakes to the sum of level minus height over all cells of the land.
-- Assumes nothing.
use mathlib.Core.List.{List, map}
use mathlib.Core.Path.{ap, ◌∙◌, ◌≡◌}
use Prim.Native.Nat.{ℕ, ◌-◌, ◌≤◌}
use native.Mathlib.Omega.{arith}
use borrow.Author.Tests.{ltb-false}
use Rattle.lake_rules.proofs.GroupsPart.{groups-sum}
use Rattle.lake_rules.proofs.OneLevel.{lake_level}
use Rattle.lake_rules.proofs.WetCells.{wet_ascending}
use Rattle.lake_rules.specs.Lakes.{level_of, outermost, volume_of, wet_cells}
use Rattle.lake_rules.specs.LocalLevels.{Local}
use Rattle.lists.proofs.Map.{map_same}
use Rattle.lists.proofs.Sum.{sum-keep-all}
use Rattle.lists.specs.Lists.{at, sum, upto}
use Rattle.rules.specs.Land.{Land}
use Rattle.rules.specs.Network.{is_wet}

module _ (L : Land) (levels : List ℕ) where
  -- the water over a cell
  abbrev water : ℕ → ℕ
  water c = at levels c - L.height c

  -- over dry cells there is none
  wet-water : sum (map water (wet_cells L levels)) ≡ sum (map water (upto L.cells))
  unfolding wet_cells
  wet-water =
      sum-keep-all water (λ c. is_wet (L.height c) (at levels c)) (upto L.cells) (λ c m e.
      let l : at levels c ≤ L.height c = ltb-false (L.height c) (at levels c) e in
      omega arith)

  all-groups : sum (map (λ s. sum (map water s)) (outermost L levels)) ≡ sum (map water (wet_cells L levels))
  unfolding outermost
  all-groups = groups-sum L (wet_cells L levels) (wet_ascending L levels) water

  pub volumes_add_up : Local L levels
      → sum (map (λ s. volume_of L (level_of levels s) s) (outermost L levels)) ≡ sum (map water (upto L.cells))
  unfolding volume_of
  volumes_add_up K =
      ap sum (map_same (λ s. volume_of L (level_of levels s) s) (λ s. sum (map water s)) (outermost L levels) (λ s m.
      ap sum (map_same (λ c. level_of levels s - L.height c) water s (λ c i.
      let e : at levels c ≡ level_of levels s = lake_level L levels K m i in
      omega arith))))
      ∙ all-groups
      ∙ wet-water
