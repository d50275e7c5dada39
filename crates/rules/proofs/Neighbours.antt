-- How many neighbours a cell of a tile has: at most as many as the rule has places. By document 01's rule two, three or four, and at most two
-- on a tile one cell wide or one cell high.
-- Assumes nothing.
use mathlib.Core.List.{List, map}
use mathlib.Core.Logic.{inl, inr, ◌⊎◌}
use mathlib.Core.Path.{ap, ◌∙◌, ◌≡◌}
use Prim.Native.Nat.{ℕ, ◌*◌, ◌<◌, ◌≤◌}
use native.Mathlib.Nat.{mul-le-mul_right, mul-mod_left, one-mul}
use lib.ListN.{length}
use Rattle.grid.proofs.Counts.{joined_few, sides-least, sides-low, sides_narrow}
use Rattle.grid.proofs.Rules.{sides_rule}
use Rattle.grid.specs.Window.{IsRule, Rows}
use Rattle.lists.proofs.Tests.{and_right}
use Rattle.rules.specs.FirstWays.{neighbours}
use Rattle.rules.specs.Ground.{cells_of, Ground, lifted}
use Rattle.rules.specs.Land.{Land, land4, Rule, rule4, tile}

-- a rule of k places gives a cell at most k neighbours, holes or none
pub neighbours-most : (R : Rule) (w n : ℕ) (heights marks : List ℕ) (c : ℕ) → IsRule R.places → Rows w n → c < n
    → length (neighbours (tile R w n heights marks) c) ≤ length R.places
unfolding neighbours
neighbours-most R w n heights marks c I G on =
    let L : Land = tile R w n heights marks in
    joined_few R.places w n L.beside c I G on (λ x h t. and_right (L.solid x) _ (and_right (L.solid c) _ t))

module _ (g : Ground) (wide : 0 < g.width) (c : ℕ) (on : c < cells_of g) where
  whole : Rows g.width (cells_of g)
  whole = record { wide = wide; whole = mul-mod_left g.height g.width }

  -- document 01, "Ground": at most four
  pub at-most_four : length (neighbours (land4 g) c) ≤ 4
  at-most_four = neighbours-most rule4 g.width (cells_of g) (map lifted g.heights) g.marks c sides_rule whole on

  -- and at least two where there are two rows and two columns
  pub at-least-two : 2 ≤ g.width → 2 ≤ g.height → 2 ≤ length (neighbours (land4 g) c)
  unfolding neighbours
  at-least-two w h = sides-least g.width (cells_of g) c whole on w (mul-le-mul_right g.width h)

  -- fewer on a tile one cell wide, or one cell high
  pub at_most_two : (g.width ≡ 1) ⊎ (g.height ≡ 1) → length (neighbours (land4 g) c) ≤ 2
  unfolding neighbours
  at_most_two (inl e) = sides_narrow g.width (cells_of g) c whole on e
  at_most_two (inr e) = sides-low g.width (cells_of g) c whole on (ap (λ (h : ℕ). h * g.width) e ∙ one-mul g.width)
