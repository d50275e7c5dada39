-- What a square leaves out is never chosen: with four neighbours the greatest of its sides, and with eight the greatest of each triangle.
-- Assumes nothing.
use mathlib.Core.Bool.{true, true≢false}
use mathlib.Core.List.{List}
use mathlib.Core.Path.{refl, sym, ◌∙◌, ◌≡◌}
use Prim.Native.Nat.{ℕ, ◌<◌, ◌^◌}
use native.Mathlib.Omega.{arith}
use Rattle.grid.proofs.Corners.{side_straight}
use Rattle.grid.specs.Neighbours.{places_by}
use Rattle.grid.specs.Window.{around, sides}
use Rattle.lists.proofs.Any.{any_in}
use Rattle.lists.specs.Lists.{at, ◌∈◌}
use Rattle.rules.specs.Land.{rule_by}
use Rattle.rules.specs.Passes.{chosen}
use Rattle.rules.specs.Tile.{tile_land}
use Rattle.squares.proofs.SideRing.{greatest_side_never}
use Rattle.squares.proofs.SquareCells.{Square}
use Rattle.squares.proofs.SquareKeys.{greater_at, lesser_at, pair_at, place_at, six}
use Rattle.squares.proofs.Triangles.{out_beaten, out_never}
use Rattle.squares.specs.Squares.{has_bit, square}
use Rattle.grid.specs.declared.Neighbours.{Neighbours}
use Rattle.grid.specs.declared.Neighbours.TheVariants.{Eight, Four}

pub left_out_never : (N : Neighbours) (w : ℕ) (heights marks labels : List ℕ) (c : ℕ) → Square N w heights marks labels c → (i : ℕ) → i < 6
    → place_at w c i ∈ places_by N → has_bit (square N w heights labels c) (2 ^ i) ≡ true
    → (at labels (lesser_at w c i) ≡ at labels (greater_at w c i) → ⊥) → pair_at w c i ∈ chosen (tile_land (rule_by N) w heights marks) → ⊥
unfolding square
left_out_never Four w heights marks labels c S =
    six (λ i. place_at w c i ∈ sides → has_bit (square Four w heights labels c) (2 ^ i) ≡ true
    → (at labels (lesser_at w c i) ≡ at labels (greater_at w c i) → ⊥) → pair_at w c i ∈ chosen (tile_land (rule_by Four) w heights marks) → ⊥)
    (λ a. greatest_side_never S 0 (omega arith))
    (λ a. greatest_side_never S 3 (omega arith))
    (λ a. absurd (true≢false (side_straight 8 a)))
    (λ a. absurd (true≢false (side_straight 6 a)))
    (λ a. greatest_side_never S 1 (omega arith))
    (λ a. greatest_side_never S 2 (omega arith))
left_out_never Eight w heights marks labels c S = λ i h a t d m. out_never S asked i h (sym (out_beaten S asked i h) ∙ t) d m
  where
    asked : (i : ℕ) → i < 6 → place_at w c i ∈ around
    asked =
        six (λ i. place_at w c i ∈ around) (any_in refl) (any_in refl) (any_in refl) (any_in refl) (any_in refl) (any_in refl)
