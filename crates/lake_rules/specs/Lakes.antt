-- W-202: lakes with volumes, over any land and any list of levels. A lake is its level and the set of its cells, ascending.
-- Assumes nothing.
use Rattle.std.specs.Prelude.{Bool, ◌&&◌, [], List, map, ◌++◌, ◌∷◌, suc, zero, ℕ, ◌-◌, leb, ltb, length}
use Rattle.lake_rules.specs.Groups.{groups, lower}
use Rattle.lists.specs.Greatest.{greatest}
use Rattle.lists.specs.Lists.{at, flat, keep, sum, upto}
use Rattle.rules.specs.Land.{Land}
use Rattle.rules.specs.Network.{is_wet}

-- lowered to h, below the lake's level, the water stands in two or more groups: its cells lower than h form so many
unfoldable pub parts : Land → ℕ → List ℕ → ℕ → Bool
parts L level s h = ltb h level && leb 2 (length (groups L (lower L h s)))

-- the greatest such h; it is the height of one of the cells. 0 for a lake that never splits: no cell is lower than 0
unfoldable pub split_height : Land → ℕ → List ℕ → ℕ
split_height L level s = greatest (keep (parts L level s) (map L.height s))

-- the lakes inside a lake, at the level of its split: the groups of the cells lower than that
unfoldable pub inside : Land → ℕ → List ℕ → List (List ℕ)
inside L level s = groups L (lower L (split_height L level s) s)

-- the sum of level minus height
unfoldable pub volume_of : Land → ℕ → List ℕ → ℕ
volume_of L level s = sum (map (λ c. level - L.height c) s)

-- what is listed of a lake: level, number of cells, volume and least cell; the level is lifted
pub record Lake : Type 0 where
  pub level : ℕ
  pub count : ℕ
  pub volume : ℕ
  pub least : ℕ

unfoldable pub lake_of : Land → ℕ → List ℕ → Lake
lake_of L level s = record { level = level; count = length s; volume = volume_of L level s; least = at s 0 }

-- a lake after all the lakes inside it, however they nest, smaller least cell first; in at most k splits
unfoldable pub lakes_within : Land → ℕ → ℕ → List ℕ → List Lake
lakes_within L zero level s = lake_of L level s ∷ []
lakes_within L (suc k) level s = flat (lakes_within L k (split_height L level s)) (inside L level s) ++ (lake_of L level s ∷ [])

-- 1 for a lake that never splits, otherwise one more than the deepest of its groups; in at most k splits
unfoldable pub depth_within : Land → ℕ → ℕ → List ℕ → ℕ
depth_within L zero level s = 1
depth_within L (suc k) level s = suc (greatest (map (depth_within L k (split_height L level s)) (inside L level s)))

-- a lake has fewer splits than cells
unfoldable pub lakes_of : Land → ℕ → List ℕ → List Lake
lakes_of L level s = lakes_within L (length s) level s

unfoldable pub depth : Land → ℕ → List ℕ → ℕ
depth L level s = depth_within L (length s) level s

-- the wet cells, by a list of levels
unfoldable pub wet_cells : Land → List ℕ → List ℕ
wet_cells L levels = keep (λ c. is_wet (L.height c) (at levels c)) (upto L.cells)

-- the outermost lakes: the largest groups of wet cells joined through neighbours, smaller least cell first
unfoldable pub outermost : Land → List ℕ → List (List ℕ)
outermost L levels = groups L (wet_cells L levels)

-- the level of an outermost lake: that of its least cell, and so of each of its cells
abbrev pub level_of : List ℕ → List ℕ → ℕ
level_of levels s = at levels (at s 0)

-- all lakes of a land
unfoldable pub lakes : Land → List ℕ → List Lake
lakes L levels = flat (λ s. lakes_of L (level_of levels s) s) (outermost L levels)

-- refusal 10: the outermost lakes of depth above 64, the first one first
unfoldable pub too_deep : Land → List ℕ → List (List ℕ)
too_deep L levels = keep (λ s. ltb 64 (depth L (level_of levels s) s)) (outermost L levels)
