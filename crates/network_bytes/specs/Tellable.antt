-- The networks that their records tell.
-- Assumes nothing.
use Rattle.std.specs.Prelude.{true, ◌≡◌, ℕ, ◌*◌, ◌<◌, pos, ℤ, get_or}
use Rattle.lists.specs.Lists.{Below}
use Rattle.rules.specs.Ground.{height_in_range}
use Rattle.rules.specs.Network.{Network}
use Rattle.rules.specs.SixLists.{Full}

-- a network of w by h cells that its record tells: an entry for each cell, every number fits its bytes, and levels are heights
pub record Tellable (w h : ℕ) (net : Network ℤ) : Type 0 where
  pub width_fits : w < 65536
  pub height_fits : h < 65536
  pub full : Full (h * w) net
  pub receivers_fit : Below 65536 net.receivers
  pub basins_fit : Below 65536 net.basins
  pub order_fits : Below 65536 net.order
  pub levels_in_range : (k : ℕ) → k < h * w → height_in_range (get_or net.levels k (pos 0)) ≡ true
  pub drainage_fits : Below 4294967296 net.drainage
  pub wet_fits : Below 256 net.wet
