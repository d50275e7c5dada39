-- How large the numbers of a network are: over any land, for its solid cells, and any receivers that drain it.
-- Assumes nothing.
use mathlib.Core.Bool.{true}
use mathlib.Core.List.{List}
use mathlib.Core.Path.{subst, sym, ◌≡◌}
use Prim.Native.Nat.{ℕ, ◌*◌, ◌<◌, ◌≤◌}
use native.Mathlib.Omega.{arith}
use Rattle.lists.proofs.At.{at_member}
use Rattle.lists.specs.Lists.{at, Below}
use Rattle.rules.proofs.Backward.{total_drainage, total_le}
use Rattle.rules.proofs.Levels.{level-peak}
use Rattle.rules.proofs.Orders.{order_mem, runs_on}
use Rattle.rules.specs.Demand3.{peak}
use Rattle.rules.specs.Land.{Land}
use Rattle.rules.specs.Network.{drainage, level, order}
use Rattle.rules.specs.Way.{done, Drains, more, Runs}

-- a peak is no higher than the highest cell
peak-most : (L : Land) (next : ℕ → ℕ) (m : ℕ) → ((c : ℕ) → c < L.cells → L.height c ≤ m) → {c j : ℕ} (w : Runs L next c j) → peak L next w ≤ m
unfolding peak
peak-most L next m f (done {c = a} h o) = f a h
peak-most L next m f (more {c = a} h s o w) = let x = f a h in let y = peak-most L next m f w in omega arith

module _ (L : Land) (r : List ℕ) (D : Drains L r) where
  -- the receiver of a cell is a cell
  pub receiver_cell : {c j : ℕ} → Runs L (at r) c j → at r c < L.cells
  receiver_cell (done {c = a} h o) = subst (λ (z : ℕ). z < L.cells) (sym (D.own a h o)) h
  receiver_cell (more h s o q) = runs_on L r q

  -- an entry of the order is a cell
  pub order_below : Below L.cells (order L r)
  order_below k l = (order_mem L r D (at (order L r) k) (at_member (order L r) k l)).0

  module _ (c : ℕ) (h : c < L.cells) (s : L.solid c ≡ true) where
    -- a level is no higher than the highest cell
    pub level-most : (m : ℕ) → ((d : ℕ) → d < L.cells → L.height d ≤ m) → level L r c ≤ m
    level-most m f = let w = D.ways c h s in rw (level-peak L r w.1) (peak-most L (at r) m f w.1)

    -- a drainage is at most all the water that the cells can have
    pub drainage-most : (water : List ℕ) → ((d : ℕ) → d < L.cells → at water d ≤ 65535) → drainage L water r c ≤ 65535 * L.cells
    drainage-most water f =
        let w = D.ways c h s in rw (← total_drainage L r D water w.1) (total_le L r D (at water) w.1 f)
