-- Which places of a cell's window have a neighbour, and which have one with the cell's own label.
-- Assumes nothing.
use Rattle.std.specs.Prelude.{List, ℕ, ◌+◌}
use Rattle.grid.specs.Masks.{mask_of}
use Rattle.grid.specs.Neighbours.{places_by}
use Rattle.grid.specs.Window.{around, beside}
use Rattle.lists.specs.Lists.{at}
use Rattle.spread.specs.Steps.{alike}
use Rattle.grid.specs.declared.Neighbours.{Neighbours}

-- the mask of the neighbours of a tile's cell
abbrev pub neighbour_mask : Neighbours → (w n : ℕ) → ℕ → ℕ
neighbour_mask N w n = mask_of around w n (beside (places_by N) w)

-- of those with the same label; cell c's label stands at c + 65, as the list has a margin
abbrev pub like_mask : Neighbours → (w n : ℕ) (labels : List ℕ) → ℕ → ℕ
like_mask N w n labels = mask_of around w n (alike (beside (places_by N) w) (λ c. at labels (c + 65)))
