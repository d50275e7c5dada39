-- What a lake of a land is, whether outermost or inside another: a level and a set of cells. The list of lakes is theirs.
-- And what it is to lie inside another.
-- Assumes nothing.
use Rattle.std.specs.Prelude.{List, ◌≡◌, ℕ, ◌<◌, length}
use Rattle.lake_rules.specs.Lakes.{inside, level_of, outermost, split_height, volume_of}
use Rattle.lists.specs.Lists.{◌∈◌}
use Rattle.rules.specs.Land.{Land}

pub data LakeOn (L : Land) (levels : List ℕ) : ℕ → List ℕ → Type 0 where
  outer : {level : ℕ} {s : List ℕ} → s ∈ outermost L levels → level ≡ level_of levels s → LakeOn L levels level s
  within : {level around : ℕ} {s z : List ℕ} → LakeOn L levels around z → s ∈ inside L around z → level ≡ split_height L around z
      → LakeOn L levels level s

-- the lake g of level h is part of the lake s: at a lower level, with fewer cells and less volume
pub record LiesIn (L : Land) (level : ℕ) (s : List ℕ) (h : ℕ) (g : List ℕ) : Type 0 where
  pub part : (c : ℕ) → c ∈ g → c ∈ s
  pub misses : (c : ℕ) × (c ∈ s) × (c ∈ g → ⊥)
  pub lower_level : h < level
  pub fewer : length g < length s
  pub less_volume : volume_of L h g < volume_of L level s
