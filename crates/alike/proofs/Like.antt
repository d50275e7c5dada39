-- The bits of a cell's neighbours that have its label are the mask of like neighbours.
-- Assumes nothing.
use mathlib.Core.List.{List}
use mathlib.Core.Path.{◌∙◌, ◌≡◌}
use Prim.Native.Nat.{ℕ, ◌+◌}
use lib.Dec.{eqb}
use Rattle.alike.proofs.Narrowed.{narrowed-beyond}
use Rattle.alike.specs.Narrowed.{like_at, narrowed_by}
use Rattle.alike.specs.NeighbourMasks.{like_mask, neighbour_mask}
use Rattle.grid.specs.Neighbours.{places_by}
use Rattle.grid.specs.Window.{beside, Rows}
use Rattle.lists.specs.Lists.{at}
use Rattle.grid.specs.declared.Neighbours.{Neighbours}

pub like_narrowed : {w n : ℕ} → Rows w n → (N : Neighbours) (labels : List ℕ) (c : ℕ) {mask r : ℕ} → mask ≡ neighbour_mask N w n c
    → r ≡ narrowed_by N mask (like_at w labels c) → r ≡ like_mask N w n labels c
like_narrowed {w} {n} G N labels c e f =
    f ∙ narrowed-beyond G N c (beside (places_by N) w) (λ d h t. t) e (λ x v. eqb v (at labels (x + 65))) labels
