-- What is measured of a lake, and its row.
-- Assumes nothing.
use Rattle.std.specs.Prelude.{cond, List, map, ℕ, ◌-◌, ◌<◌, ◌≤◌, eqb, length}
use Rattle.lake_list.specs.Rows.{row_of}
use Rattle.lists.specs.Lists.{at, sum, ◌∈◌}
use Rattle.lake_list.specs.declared.Row.{Row}

-- the height of a flagged cell, and 0 of any other
abbrev pub flag_height : (heights flags : List ℕ) (c : ℕ) → ℕ
flag_height heights flags c = cond (eqb (at flags c) 1) (at heights c) 0

-- cells of a tile, which has no more than 4096, with flags
pub record Flags (heights flags cells : List ℕ) : Type 0 where
  pub few : length cells ≤ 4096
  pub flags_fit : length heights ≤ length flags
  pub on_tile_fact : (c : ℕ) → c ∈ cells → c < length heights

-- cells of a tile below a level
pub record Under (level : ℕ) (heights cells : List ℕ) : Type 0 where
  pub few : length cells ≤ 4096
  pub on_tile_fact : (c : ℕ) → c ∈ cells → c < length heights
  pub below : (c : ℕ) → c ∈ cells → at heights c < level

-- what is listed of the lake of these cells
abbrev pub row_in : (heights : List ℕ) (level : ℕ) (s : List ℕ) → Row
row_in heights level s =
    row_of (record { level = level; count = length s; volume = sum (map (λ c. level - at heights c) s); least = at s 0 })
