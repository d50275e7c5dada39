-- How great the numbers of a lake can be on a tile of n cells. What stores or prints lakes rests on it.
-- Assumes nothing.
use Rattle.std.specs.Prelude.{List, ℕ, ◌*◌, ◌<◌, ◌≤◌}
use Rattle.lake_rules.specs.Lakes.{Lake}
use Rattle.lake_rules.specs.Notes.{highest}
use Rattle.lists.specs.Lists.{◌∈◌}

-- no more cells than the tile has, its level a lifted height, and no cell deeper than that
pub record LakeFits (n : ℕ) (x : Lake) : Type 0 where
  pub level_fits : x.level ≤ highest
  pub count_fits : x.count ≤ n
  pub volume_fits : x.volume ≤ highest * n
  pub least_fits : x.least < n

-- every lake of a list
abbrev pub LakesFit : ℕ → List Lake → Type 0
LakesFit n ls = (x : Lake) → x ∈ ls → LakeFits n x
