-- What walking the linked cells of a record leaves in the five lent lists, over the neighbours asked for.
-- Assumes nothing.
use Rattle.std.specs.Prelude.{List, ◌≡◌, ℕ}
use Rattle.ground.specs.Record.{ground_in}
use Rattle.lists.specs.Lists.{overwrite}
use Rattle.rules.specs.Network.{lifted_network_by}
use Rattle.walk.specs.Walk.{Lent}
use Rattle.grid.specs.declared.Neighbours.{Neighbours}
use Rattle.rules.specs.declared.Manner.{Manner}

-- the network of the record's ground but for its basins, levels lifted, stands at their start; drainage stands where the walk's stack was
pub record RecordWalked (N : Neighbours) (M : Manner) (s : List ℕ) (w h : ℕ) (before after : Lent) : Type 0 where
  pub receivers_are : after.receivers ≡ overwrite (lifted_network_by N M (ground_in s w h)).receivers before.receivers
  pub order_is : after.order ≡ overwrite (lifted_network_by N M (ground_in s w h)).order before.order
  pub levels_are : after.levels ≡ overwrite (lifted_network_by N M (ground_in s w h)).levels before.levels
  pub drainage_is : after.stack ≡ overwrite (lifted_network_by N M (ground_in s w h)).drainage before.stack
  pub wets_are : after.wets ≡ overwrite (lifted_network_by N M (ground_in s w h)).wet before.wets
