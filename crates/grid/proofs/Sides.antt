-- The four sides of a cell by number: the cell above is w less, the one to the left 1 less, to the right 1 more, below w more.
-- Assumes nothing.
use mathlib.Core.Bool.{Bool, cond, false, true}
use mathlib.Core.Path.{ap, refl, sym, ◌∙◌, ◌≡◌}
use Prim.Native.Nat.{ℕ, ◌%◌, ◌+◌, ◌-◌, ◌/◌, ◌<◌, ◌≤◌}
use native.Mathlib.Nat.{add-div_right, add-mod_right, mod-lt}
use native.Mathlib.Omega.{arith}
use lib.Dec.{leb, ltb}
use borrow.Author.Tests.{le-leb, leb-true, lt-ltb, ltb-true}
use Rattle.grid.proofs.Rows.{left_column_lem, next_column, next_row, right_on}
use Rattle.grid.proofs.Window.{on_stands, stands_cell, stands_number, stands_on}
use Rattle.grid.specs.Sides.{above, below, leftward, rightward}
use Rattle.grid.specs.Window.{cell_or, on_tile, Rows, sides, Stands}
use Rattle.lists.proofs.Each.{each_member}
use Rattle.lists.proofs.Tests.{same_test}
use Rattle.lists.specs.Lists.{◌∈◌}

module _ {w n c : ℕ} (G : Rows w n) (on : c < n) where
  -- who stands at a side
  pub above_stands : w ≤ c → Stands w n c 1 (c - w)
  above_stands h =
      let s : c - w + w ≡ c = omega arith in
      let r = ap (λ (x : ℕ). x / w) (sym s) ∙ add-div_right (c - w) G.wide in
      let m = ap (λ (x : ℕ). x % w) (sym s) ∙ add-mod_right (c - w) w in
      record { place = omega arith; row = omega arith; column = omega arith; on = omega arith }

  pub left_stands : 0 < c % w → Stands w n c 3 (c - 1)
  left_stands h =
      let l = left_column_lem w c G.wide h in
      let s : c - 1 + 1 ≡ c = l.1 in
      let r = ap (λ (x : ℕ). x / w) (sym s) ∙ next_row (c - 1) w G.wide l.0 in
      let m = ap (λ (x : ℕ). x % w) (sym s) ∙ next_column (c - 1) w l.0 in
      record { place = omega arith; row = omega arith; column = omega arith; on = omega arith }

  pub right_stands : c % w + 1 < w → Stands w n c 5 (c + 1)
  right_stands h =
      let r = next_row c w G.wide h in
      let m = next_column c w h in
      record { place = omega arith; row = omega arith; column = omega arith; on = right_on n w c G.whole on h }

  pub below_stands : c + w < n → Stands w n c 7 (c + w)
  below_stands h =
      let r = add-div_right c G.wide in
      let m = add-mod_right c w in
      record { place = omega arith; row = omega arith; column = omega arith; on = h }

  -- and what it says of the two numbers
  pub stands_above : {d : ℕ} → Stands w n c 1 d → d + w ≡ c
  stands_above S = let e = stands_number S in omega arith

  pub stands_left : {d : ℕ} → Stands w n c 3 d → (d + 1 ≡ c) × (0 < c % w)
  stands_left S = let e = stands_number S in let m = S.column in (omega arith, omega arith)

  pub stands_right : {d : ℕ} → Stands w n c 5 d → (d ≡ c + 1) × (c % w + 1 < w)
  stands_right {d} S =
      let e = stands_number S in
      let m = S.column in
      let k = mod-lt d G.wide in
      (omega arith, omega arith)

  pub stands_below : {d : ℕ} → Stands w n c 7 d → (d ≡ c + w) × (c + w < n)
  stands_below S = let e = stands_number S in let o = S.on in (omega arith, omega arith)

  -- so the tests are these
  on_above : on_tile w n c 1 ≡ leb w c
  on_above =
      same_test _ _
      (λ t. let e = stands_above (on_stands w n c 1 (omega arith) G.wide t) in le-leb w c (omega arith))
      (λ t. stands_on (above_stands (leb-true w c t)) G)

  on_left : on_tile w n c 3 ≡ ltb 0 (c % w)
  on_left =
      same_test _ _
      (λ t. lt-ltb 0 (c % w) (stands_left (on_stands w n c 3 (omega arith) G.wide t)).1)
      (λ t. stands_on (left_stands (ltb-true 0 (c % w) t)) G)

  on_right : on_tile w n c 5 ≡ ltb (c % w + 1) w
  on_right =
      same_test _ _
      (λ t. lt-ltb (c % w + 1) w (stands_right (on_stands w n c 5 (omega arith) G.wide t)).1)
      (λ t. stands_on (right_stands (ltb-true (c % w + 1) w t)) G)

  on_below : on_tile w n c 7 ≡ ltb (c + w) n
  on_below =
      same_test _ _
      (λ t. lt-ltb (c + w) n (stands_below (on_stands w n c 7 (omega arith) G.wide t)).1)
      (λ t. stands_on (below_stands (ltb-true (c + w) n t)) G)

  -- and the cells, or the cell itself where the tile has none
  side_is : (p d : ℕ) (t : Bool) → on_tile w n c p ≡ t → (t ≡ true → Stands w n c p d) → cell_or w n c p ≡ cond t d c
  side_is p d true e f = rw (e, stands_cell (f refl))
  side_is p d false e f = rw e

  pub above_is : cell_or w n c 1 ≡ above w c
  above_is = side_is 1 (c - w) (leb w c) on_above (λ t. above_stands (leb-true w c t))

  pub left_is : cell_or w n c 3 ≡ leftward (c % w) c
  left_is = side_is 3 (c - 1) (ltb 0 (c % w)) on_left (λ t. left_stands (ltb-true 0 (c % w) t))

  pub right_is : cell_or w n c 5 ≡ rightward w (c % w) c
  right_is = side_is 5 (c + 1) (ltb (c % w + 1) w) on_right (λ t. right_stands (ltb-true (c % w + 1) w t))

  pub below_is : cell_or w n c 7 ≡ below w n c
  below_is = side_is 7 (c + w) (ltb (c + w) n) on_below (λ t. below_stands (ltb-true (c + w) n t))

-- each of the four, one after the other
pub each_side : (P : ℕ → Type 0) → P 1 → P 3 → P 5 → P 7 → (p : ℕ) → p ∈ sides → P p
each_side P a b c d = each_member P sides (a, (b, (c, (d, tt))))
