-- A cell's weight leads to its first receiver, and is the mask of it alone. So the weights of a tile say its first receivers.
-- Assumes nothing.
use Rattle.std.proofs.Common.{◌≡◌, ℕ, ◌<◌, List, length, sym, refl, ap, ◌∙◌, subst, arith}
use Rattle.first_receivers.proofs.Keys.{steepest_placed}
use Rattle.first_receivers.proofs.Taken.{tile_taking}
use Rattle.first_receivers.specs.Weights.{beside, first_is, itself, Placed, steepest_key, weight, weight_by, Weighed}
use Rattle.grid.proofs.Masks.{leads_itself, leads-place, masks_filled}
use Rattle.grid.proofs.Rules.{around_rule, places-around, rule_by_lem}
use Rattle.grid.specs.Masks.{leads, mask_of}
use Rattle.grid.specs.Window.{around, Grid, Rows}
use Rattle.lists.proofs.Tests.{is, isnt, Known, known}
use Rattle.lists.specs.Lists.{at, filled}
use Rattle.rules.proofs.FirstReceivers.{first_outlet}
use Rattle.rules.specs.FirstWays.{first_receiver}
use Rattle.rules.specs.Ground.{is_outlet}
use Rattle.rules.specs.Land.{Land, rule_by}
use Rattle.rules.specs.Tile.{Tile, tile_land}
use Rattle.grid.specs.declared.Neighbours.{Neighbours}

-- the weight that leads to a cell is the mask of it alone
pub placed_mask : (N : Neighbours) (w n c : ℕ) → Rows w n → (f : ℕ → ℕ) (k : ℕ) → Placed N w n c (f c) k → mask_of around w n (leads f) c ≡ k
placed_mask N w n c G f k (itself e q) = leads_itself G around_rule c f e ∙ sym q
placed_mask N w n c G f k (beside {p = p} m S q) = leads-place G around_rule c f p (places-around (rule_by_lem N) p m) S ∙ sym q

module _ (N : Neighbours) (w : ℕ) (heights marks : List ℕ) (T : Tile w heights marks) where
  abbrev L : Land
  L = tile_land (rule_by N) w heights marks

  abbrev n : ℕ
  n = length heights

  -- a cell's weight leads to its first receiver
  weight_placed : (c : ℕ) → c < n → Placed N w n c (first_receiver L c) (weight N w heights marks c)
  unfolding weight_by steepest_key
  weight_placed c on = go (known (is_outlet marks c))
    where
      go : Known (is_outlet marks c) → Placed N w n c (first_receiver L c) (weight N w heights marks c)
      go (is t) = rw t (itself (first_outlet L c t) refl)
      go (isnt t) = rw t (steepest_placed w heights marks T c _ (tile_taking T.grid.rows on) N t)

  pub weight-mask : (c : ℕ) → c < n → weight N w heights marks c ≡ mask_of around w n (first_is L) c
  weight-mask c on = sym (placed_mask N w n c T.grid.rows (first_receiver L) (weight N w heights marks c) (weight_placed c on))

  -- what `weights` leaves is what `first_receivers` asks for
  pub weights_weighed : (old weights : List ℕ) → weights ≡ filled (mask_of around w n (first_is L)) n old → Weighed N w n heights marks weights
  weights_weighed old weights e = record { tile = T; sized = refl; masks = masks_filled around w n (first_is L) old weights e }

module _ {N : Neighbours} {w n : ℕ} {heights marks weights : List ℕ} (W : Weighed N w n heights marks weights) where
  -- the tile's rows and bounds, for n cells
  pub weighed_grid : Grid w n
  weighed_grid = subst (λ (k : ℕ). Grid w k) W.sized W.tile.grid

  -- each weight of a tile's list
  pub weighed_placed : (c : ℕ) → c < n → Placed N w n c (first_receiver (tile_land (rule_by N) w heights marks) c) (at weights c)
  weighed_placed c h =
      let L : Land = tile_land (rule_by N) w heights marks in
      let s = W.sized in
      subst (Placed N w n c (first_receiver L c))
      (weight-mask N w heights marks W.tile c (omega arith) ∙ ap (λ (z : ℕ). mask_of around w z (first_is L) c) s ∙ sym (W.masks c h))
      (subst (λ (z : ℕ). Placed N w z c (first_receiver L c) (weight N w heights marks c)) s
      (weight_placed N w heights marks W.tile c (omega arith)))
