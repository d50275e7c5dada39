-- What `visit` asks of a cell's mask: of four neighbours none stands at a corner, so the corners' bits are 0.
-- Assumes nothing.
use Rattle.std.proofs.Common.{◌≡◌, ℕ, ◌<◌, Bool, false, List, map, length, sym, refl, ◌∙◌, subst, arith}
use mathlib.Core.Bool.{false≢true}
use mathlib.Core.List.Memᴰ.{head as in_head}
use mathlib.Core.List.Memᴰ.{tail as in_Tail}
use Rattle.grid.proofs.Corners.{corner-around, corner_diagonal, side_straight}
use Rattle.grid.proofs.Rules.{around_rule, sides_rule}
use Rattle.grid.proofs.Window.{beside_stands, on_stands, stands_place}
use Rattle.grid.specs.Masks.{bits, joins_at, mask_of}
use Rattle.grid.specs.Window.{around, cell_at, corners, on_tile, sides}
use Rattle.lists.proofs.Tests.{and_left, and_right, cond_small, never}
use Rattle.lists.specs.Lists.{◌∈◌}
use Rattle.rules.specs.Land.{rule4, rule_by}
use Rattle.rules.specs.Network.{gives}
use Rattle.rules.specs.Tile.{tile_land}
use Rattle.walk.proofs.Givers.{gives-beside}
use Rattle.walk.specs.Climb.{MaskAsked}
use Rattle.walk.specs.Walk.{Margin}
use Rattle.grid.specs.declared.Neighbours.{Neighbours}
use Rattle.grid.specs.declared.Neighbours.TheVariants.{Eight, Four}

-- no bits where the tests of the corners fail
no_corners : (t : ℕ → Bool) → ((p : ℕ) → p ∈ corners → t p ≡ false) → MaskAsked Four (bits (map t around))
no_corners t none =
    let a = cond_small (t 1) in let b = cond_small (t 3) in let d = cond_small (t 5) in let e = cond_small (t 7) in
    rw (
      none 0 (in_head refl),
      none 2 (in_Tail (in_head refl)),
      none 6 (in_Tail (in_Tail (in_head refl))),
      none 8 (in_Tail (in_Tail (in_Tail (in_head refl)))),
    ) ((omega arith, omega arith), (omega arith, omega arith))

module _ {w : ℕ} {heights marks links r : List ℕ} (M : Margin rule4 w heights marks links r) (c : ℕ) (on : c < length heights) where
  -- what stands at a corner doesn't receive to c
  corner_joins : (p : ℕ) → p ∈ corners → joins_at w (length heights) (gives (tile_land rule4 w heights marks) r) c p ≡ false
  corner_joins p m = never _ (λ t.
      let n : ℕ = length heights in
      let S = on_stands w n c p (around_rule.within p (corner-around p m)) M.inside.tile.grid.rows.wide (and_left (on_tile w n c p) _ t) in
      let b = gives-beside M c on (cell_at w c p) S.on (and_right (on_tile w n c p) _ t) in
      let (q, i, T) = beside_stands sides w n c (cell_at w c p) sides_rule S.on b in
      let side : p ∈ sides = subst (λ (z : ℕ). z ∈ sides) (sym (stands_place T) ∙ stands_place S) i in
      false≢true (sym (side_straight p side) ∙ corner_diagonal p m))

pub mask-asked : (N : Neighbours) {w : ℕ} {heights marks links r : List ℕ} → Margin (rule_by N) w heights marks links r → (c : ℕ)
    → c < length heights → MaskAsked N (mask_of around w (length heights) (gives (tile_land (rule_by N) w heights marks) r) c)
unfolding mask_of
mask-asked Four {w} {heights} {marks} {links} {r} M c on =
    no_corners (joins_at w (length heights) (gives (tile_land rule4 w heights marks) r) c) (corner_joins M c on)
mask-asked Eight M c on = (tt, tt)
