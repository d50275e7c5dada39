-- The four sides of a cell in column col of a tile w wide with n cells, by number; the cell itself for one that the tile has not.
-- Assumes nothing.
use Rattle.std.specs.Prelude.{cond, ℕ, ◌+◌, ◌-◌, leb, ltb}

abbrev pub above : (w c : ℕ) → ℕ
above w c = cond (leb w c) (c - w) c

abbrev pub leftward : (col c : ℕ) → ℕ
leftward col c = cond (ltb 0 col) (c - 1) c

abbrev pub rightward : (w col c : ℕ) → ℕ
rightward w col c = cond (ltb (col + 1) w) (c + 1) c

abbrev pub below : (w n c : ℕ) → ℕ
below w n c = cond (ltb (c + w) n) (c + w) c
