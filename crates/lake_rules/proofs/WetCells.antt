-- The wet cells of a land, by a list of levels: those below their level, ascending.
-- Assumes nothing.
use mathlib.Core.List.{List}
use Prim.Native.Nat.{ℕ, ◌<◌}
use borrow.Author.Tests.{lt-ltb, ltb-true}
use Rattle.lake_rules.proofs.Joining.{OnLand}
use Rattle.lake_rules.specs.Lakes.{wet_cells}
use Rattle.lists.proofs.Ascending.{ascending_keep, ascending_upto}
use Rattle.lists.proofs.Keep.{keep_holds, keep_member}
use Rattle.lists.proofs.Range.{upto-below, upto_holds}
use Rattle.lists.specs.Ascending.{Ascending}
use Rattle.lists.specs.Lists.{at, upto, ◌∈◌}
use Rattle.rules.specs.Land.{Land}
use Rattle.rules.specs.Network.{is_wet}

module _ (L : Land) (levels : List ℕ) where
  pub wet_cell : {c : ℕ} → c ∈ wet_cells L levels → (c < L.cells) × (L.height c < at levels c)
  unfolding wet_cells
  wet_cell {c} m =
      let k = keep_member (λ c. is_wet (L.height c) (at levels c)) (upto L.cells) m in
      (upto-below k.0, ltb-true (L.height c) (at levels c) k.1)

  pub wet_holds : {c : ℕ} → c < L.cells → L.height c < at levels c → c ∈ wet_cells L levels
  unfolding wet_cells
  wet_holds {c} h l = keep_holds (λ c. is_wet (L.height c) (at levels c)) (upto_holds h) (lt-ltb (L.height c) (at levels c) l)

  pub wet_on_land : OnLand L (wet_cells L levels)
  wet_on_land c m = (wet_cell m).0

  pub wet_ascending : Ascending (wet_cells L levels)
  unfolding wet_cells
  wet_ascending = ascending_keep (λ c. is_wet (L.height c) (at levels c)) (upto L.cells) (ascending_upto L.cells)
