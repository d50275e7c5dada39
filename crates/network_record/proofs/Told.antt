-- The network record of an accepted ground tells the six lists of its network, alone and at the start of a lent record.
-- Assumes nothing.
use mathlib.Core.List.{List}
use mathlib.Core.Path.{refl, subst, sym, ◌≡◌}
use Prim.Native.Nat.{ℕ, ◌<◌, ◌≤◌}
use native.Mathlib.Omega.{arith}
use Rattle.network_record.specs.RecordCall.{network_record_by}
use Rattle.ground.proofs.Acceptance.{good_few}
use Rattle.ground.specs.Good.{Good}
use Rattle.lists.specs.Lists.{at, Below, overwrite}
use Rattle.network.proofs.Grounds.{good_drainable, good_tile}
use Rattle.network.proofs.Networks.{drains}
use Rattle.network_bytes.proofs.RecordBytes.{record_bytes}
use Rattle.network_bytes.proofs.TellableNetworks.{network_of_tellable}
use Rattle.network_bytes.proofs.ToldNetworks.{network-left, network-told, record_determines_network}
use Rattle.network_bytes.specs.ReadNetwork.{network_in, network_of_record}
use Rattle.network_bytes.specs.Tellable.{Tellable}
use Rattle.rules.proofs.NetworkDrains.{network_of_lem}
use Rattle.rules.specs.Ground.{cells_of, Ground}
use Rattle.rules.specs.Land.{land_by}
use Rattle.rules.specs.Network.{network_by, receivers_by}
use Rattle.grid.specs.declared.Neighbours.{Neighbours}
use Rattle.rules.specs.declared.Manner.{Manner}

module _ (N : Neighbours) (M : Manner) (g : Ground) (G : Good g) (small : Below 65536 g.water) where
  -- every number of the network fits its bytes
  network_tellable : Tellable g.width g.height (network_by N M g)
  network_tellable =
      subst (Tellable g.width g.height) (sym (network_of_lem N M g (good_drainable g G)))
      (network_of_tellable (land_by N g) g.water (receivers_by M (land_by N g)) (drains N M g G) (λ c h. refl) (good_few g G)
      (λ c h. (good_tile g G N).tile.lifted c) water g.width g.height refl (omega (arith, G.narrow)) (omega (arith, G.low)))
    where
      water : (c : ℕ) → c < cells_of g → at g.water c ≤ 65535
      water c h = omega (arith, small c (rw G.water_full h))

  -- the record that a call writes says the network, with the width and the height that it names
  pub told : network_of_record (network_record_by N M g) ≡ network_by N M g
  unfolding network_record_by
  told = network-told g.width g.height (network_by N M g) network_tellable

  -- its entries are bytes
  pub told_bytes : Below 256 (network_record_by N M g)
  unfolding network_record_by
  told_bytes = record_bytes g.width g.height (network_by N M g) network_tellable.wet_fits

  -- what a call leaves of a lent record says the network too
  pub told-left : (old : List ℕ) → network_in (overwrite (network_record_by N M g) old) g.width g.height ≡ network_by N M g
  unfolding network_record_by
  told-left old = network-left g.width g.height (network_by N M g) network_tellable old

-- two accepted grounds with one network record have one network
pub record_determines_six_lists : (N : Neighbours) (M : Manner) (g k : Ground) → Good g → Good k → Below 65536 g.water → Below 65536 k.water
    → network_record_by N M g ≡ network_record_by N M k → network_by N M g ≡ network_by N M k
unfolding network_record_by
record_determines_six_lists N M g k G K small small' =
    record_determines_network g.width g.height (network_by N M g) k.width k.height (network_by N M k) (network_tellable N M g G small)
    (network_tellable N M k K small')
