-- Document 01, "Ground": what every accepted ground has.
-- Assumes nothing.
use Rattle.std.specs.Prelude.{true, List, ◌≡◌, ℕ, ◌<◌, ◌≤◌, pos, ℤ, get_or, length}
use Rattle.lists.specs.Lists.{at}
use Rattle.rules.specs.Ground.{cells_of, Ground, height_in_range}

-- lists with an entry for each of n cells
pub record Full (heights : List ℤ) (marks water : List ℕ) (n : ℕ) : Type 0 where
  pub heights_full : length heights ≡ n
  pub marks_full : length marks ≡ n
  pub water_full : length water ≡ n

pub record Good (g : Ground) : Type 0 where
  -- width and height are 1 to 64
  pub wide : 1 ≤ g.width
  pub narrow : g.width ≤ 64
  pub tall : 1 ≤ g.height
  pub low : g.height ≤ 64
  -- each list has an entry for each cell
  pub heights_full : length g.heights ≡ cells_of g
  pub marks_full : length g.marks ≡ cells_of g
  pub water_full : length g.water ≡ cells_of g
  -- every height is in range, and every mark is 0 or 1
  pub heights_in_range : (k : ℕ) → k < cells_of g → height_in_range (get_or g.heights k (pos 0)) ≡ true
  pub marks_allowed : (k : ℕ) → k < cells_of g → at g.marks k ≤ 1
  -- at least one cell is an outlet
  pub outlet : ℕ
  pub outlet_below : outlet < cells_of g
  pub outlet_marked : at g.marks outlet ≡ 1
