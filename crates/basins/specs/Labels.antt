-- Labels of cells: basin numbers, with one number for all outlet basins. They tell the nodes of rule 4 apart.
-- Assumes nothing.
use Rattle.std.specs.Prelude.{Bool, cond, List, ◌≡◌, ℕ, ◌<◌}
use Rattle.rules.specs.Ground.{is_outlet}
use Rattle.rules.specs.Land.{Land}

-- the label of a cell, by its singular cell: whether that one is an outlet, and the number of its basin
abbrev pub label_by : (all : ℕ) (outlet : Bool) (number : ℕ) → ℕ
label_by all outlet number = cond outlet all number

-- the marks of a land of n cells
abbrev pub Marked : Land → ℕ → List ℕ → Type 0
Marked L n marks = (c : ℕ) → c < n → L.outlet c ≡ is_outlet marks c
