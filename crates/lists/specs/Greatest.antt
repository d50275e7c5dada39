-- The greatest entry of a list.
-- Assumes nothing.
use Rattle.std.specs.Prelude.{[], List, ◌∷◌, max, ℕ}

-- the greatest entry, or 0 where there is none
abbrev pub greatest : List ℕ → ℕ
greatest [] = 0
greatest (x ∷ xs) = max x (greatest xs)
