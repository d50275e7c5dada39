-- Any outcome of a network call on a tile that is accepted: what the answer tells of the ground, and that its network begins the lists.
-- Assumes nothing.
use mathlib.Core.Path.{sym, ◌≡◌}
use Prim.Native.Nat.{ℕ, ◌*◌}
use lib.IntN.{ℤ}
use Rattle.ground.proofs.Acceptance.{lists_accepted}
use Rattle.ground.specs.Accepted.{AcceptedLists}
use Rattle.network.proofs.Networks.{good_full}
use Rattle.network.specs.Call.{network_holds, OutcomeBy}
use Rattle.rules.proofs.SixLists.{first_of_onto}
use Rattle.rules.specs.Ground.{cells_of, Ground}
use Rattle.rules.specs.Network.{Network, network_by}
use Rattle.rules.specs.SixLists.{first_of, Full}
use Rattle.grid.specs.declared.Neighbours.{Neighbours}
use Rattle.rules.specs.declared.Manner.{Manner}
use Rattle.ground.specs.Judge.{Accepted}

module _ (N : Neighbours) (M : Manner) (g : Ground) (before : Network ℤ) {w h : ℕ} {after : Network ℤ} (o : OutcomeBy N M g before (Accepted w h) after) where
  -- the ground is good, and the answer gives its size
  pub call_accepted : AcceptedLists (network_holds before) g w h
  call_accepted = lists_accepted (network_holds before) g (sym o.answer)

  pub call_cells : h * w ≡ cells_of g
  call_cells = rw (call_accepted.width_is, call_accepted.height_is)

  -- its network has an entry for each cell
  pub call_full : Full (cells_of g) (network_by N M g)
  call_full = good_full N M g call_accepted.good

  -- the first N entries of the lists are the network
  pub call_network : first_of (cells_of g) after ≡ network_by N M g
  call_network = first_of_onto (cells_of g) (network_by N M g) before call_full o.lists
