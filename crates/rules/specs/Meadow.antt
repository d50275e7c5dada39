-- What W-201 changed: rule 10 as document 01 has it, and the cells that it alone calls wet.
-- Assumes nothing.
use Rattle.std.specs.Prelude.{cond, false, not, true, ◌&&◌, List, ◌≡◌, ℕ, eqb}
use Rattle.lists.specs.Lists.{at}
use Rattle.rules.specs.Land.{Land}
use Rattle.rules.specs.Network.{level}

-- document 01's rule 10, of a cell with ground: wet when it isn't an outlet and its level equals its receiver's level
unfoldable pub wet_by_document01 : Land → List ℕ → ℕ → ℕ
wet_by_document01 L r c = cond (L.solid c && not (L.outlet c) && eqb (level L r c) (level L r (at r c))) 1 0

-- a meadow, dry level ground: no hole and no outlet, its level is its height, and so is its receiver's level
pub record Meadow (L : Land) (r : List ℕ) (c : ℕ) : Type 0 where
  pub solid : L.solid c ≡ true
  pub inner : L.outlet c ≡ false
  pub no_water : level L r c ≡ L.height c
  pub receiver_level : level L r (at r c) ≡ L.height c
