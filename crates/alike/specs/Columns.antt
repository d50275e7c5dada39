-- The mask of a cell's neighbours by the three columns of its window. The cells of one row have the same columns, but that the first cell of
-- the row has none to its left, and the last none to its right.
-- Assumes nothing.
use Rattle.std.specs.Prelude.{Bool, cond, ℕ, ◌+◌, ltb}
use Rattle.grid.specs.declared.Neighbours.{Neighbours}
use Rattle.grid.specs.declared.Neighbours.TheVariants.{Eight, Four}

-- a column beside the cell's own, by the bits of its places and by whether the tile has a row above the cell's and one below it: of four
-- neighbours only the one at the side
abbrev pub column_by : Neighbours → (above below : Bool) (upper side lower : ℕ) → ℕ
column_by Four above below upper side lower = side
column_by Eight above below upper side lower = cond above upper 0 + side + cond below lower 0

-- the three columns
abbrev pub left_column : Neighbours → (above below : Bool) → ℕ
left_column N above below = column_by N above below 1 8 32

abbrev pub middle_column : (above below : Bool) → ℕ
middle_column above below = cond above 2 0 + cond below 64 0

abbrev pub right_column : Neighbours → (above below : Bool) → ℕ
right_column N above below = column_by N above below 4 16 128

-- the mask of the cell in column x of a tile w wide, by its three columns
abbrev pub in_column : (w left middle right x : ℕ) → ℕ
in_column w left middle right x = middle + cond (ltb 0 x) left 0 + cond (ltb (x + 1) w) right 0
