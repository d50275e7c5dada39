-- Samples of the masks, cell by cell. The bits are 1, 2 and 4 above a cell, 8 and 16 beside it, and 32, 64 and 128 below.
-- Assumes nothing.
use Rattle.std.specs.Prelude.{[], List, ◌++◌, ◌∷◌, refl, ◌≡◌, ℕ, replicate}
use Rattle.alike.specs.Narrowed.{like_at, narrowed_by}
use Rattle.alike.specs.NeighbourMasks.{like_mask, neighbour_mask}
use Rattle.grid.specs.Masks.{mask_of}
use Rattle.grid.specs.Window.{cell_at, on_tile}
use Rattle.lists.specs.Lists.{tab}
use Rattle.grid.specs.declared.Neighbours.TheVariants.{Eight, Four}

-- two rows of three cells
pub two_rows_four : tab 6 (neighbour_mask Four 3 6) ≡ 80 ∷ 88 ∷ 72 ∷ 18 ∷ 26 ∷ 10 ∷ []
unfolding mask_of on_tile cell_at
two_rows_four = refl

pub two_rows_eight : tab 6 (neighbour_mask Eight 3 6) ≡ 208 ∷ 248 ∷ 104 ∷ 22 ∷ 31 ∷ 11 ∷ []
unfolding mask_of on_tile cell_at
two_rows_eight = refl

-- one column of three cells: no cell has a neighbour beside it
pub one_column : tab 3 (neighbour_mask Eight 1 3) ≡ 64 ∷ 66 ∷ 2 ∷ []
unfolding mask_of on_tile cell_at
one_column = refl

-- one cell alone
pub one_cell : tab 1 (neighbour_mask Eight 1 1) ≡ 0 ∷ []
unfolding mask_of on_tile cell_at
one_cell = refl

-- the neighbours with the same label, of two rows of three cells. The margin has no say, though its labels are those of cells
abbrev labels : List ℕ
labels = replicate 65 7 ++ (7 ∷ 7 ∷ 5 ∷ 5 ∷ 7 ∷ 5 ∷ replicate 65 5)

pub like_four : tab 6 (like_mask Four 3 6 labels) ≡ 16 ∷ 72 ∷ 64 ∷ 0 ∷ 2 ∷ 2 ∷ []
unfolding mask_of on_tile cell_at
like_four = refl

pub like_eight : tab 6 (like_mask Eight 3 6 labels) ≡ 144 ∷ 72 ∷ 64 ∷ 0 ∷ 3 ∷ 2 ∷ []
unfolding mask_of on_tile cell_at
like_eight = refl

-- and the same by the bits that pass
pub narrowed_four : tab 6 (λ c. narrowed_by Four (neighbour_mask Four 3 6 c) (like_at 3 labels c)) ≡ 16 ∷ 72 ∷ 64 ∷ 0 ∷ 2 ∷ 2 ∷ []
unfolding mask_of on_tile cell_at narrowed_by
narrowed_four = refl

pub narrowed_eight : tab 6 (λ c. narrowed_by Eight (neighbour_mask Eight 3 6 c) (like_at 3 labels c)) ≡ 144 ∷ 72 ∷ 64 ∷ 0 ∷ 3 ∷ 2 ∷ []
unfolding mask_of on_tile cell_at narrowed_by
narrowed_eight = refl
