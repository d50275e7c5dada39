-- What the stages leave, with levels dropped, is the network of the ground; and its levels can be dropped.
-- Assumes nothing.
use mathlib.Core.List.{List, map}
use mathlib.Core.Path.{ap, refl, subst, sym, ◌∙◌, ◌≡◌}
use Prim.Native.Nat.{ℕ, ◌<◌, ◌≤◌}
use native.Mathlib.Omega.{arith}
use lib.IntN.{ℤ}
use lib.ListN.{length}
use Rattle.ground.specs.Good.{Good}
use Rattle.lists.proofs.Tab.{tab-at, tab-length}
use Rattle.lists.specs.Lists.{at, overwrite}
use Rattle.network.proofs.Grounds.{good_drainable, good_tile, lifted_full}
use Rattle.rules.proofs.Bounds.{level-most}
use Rattle.rules.proofs.Demand3Holds.{ground_lawful}
use Rattle.rules.proofs.Manners.{manner_network}
use Rattle.rules.proofs.NetworkDrains.{network_drains, network_of_lem}
use Rattle.rules.proofs.SixLists.{lifted_network_full, network_of_full, six_lists_same}
use Rattle.rules.specs.Carving.{receivers}
use Rattle.rules.specs.Ground.{cells_of, dropped, Ground, lifted, Lifted}
use Rattle.rules.specs.Land.{Land, land_by, rule_by, tile}
use Rattle.rules.specs.Network.{level, lifted_network_by, lifted_network_in, Network, network_by, receivers_by}
use Rattle.rules.specs.SixLists.{Full, onto, six_lists}
use Rattle.rules.specs.Way.{Drains}
use Rattle.rules.specs.Tile.{tile_land}
use Rattle.grid.specs.declared.Neighbours.{Neighbours}
use Rattle.rules.specs.declared.Manner.{Manner}
use Rattle.rules.specs.declared.Manner.TheVariants.{Carve}

module _ (N : Neighbours) (M : Manner) (g : Ground) (G : Good g) where
  abbrev L : Land
  L = land_by N g

  abbrev r : List ℕ
  r = receivers_by M (land_by N g)

  pub drains : Drains (land_by N g) (receivers_by M (land_by N g))
  unfolding network_by lifted_network_in
  drains = network_drains N M g (good_drainable g G)

  -- the network has an entry for each cell
  pub network_full : Full (cells_of g) (lifted_network_by N M g)
  network_full =
      subst (Full (cells_of g)) (sym (manner_network M L (ground_lawful N g (good_drainable g G)) g.water))
      (lifted_network_full L g.water r drains (λ c h. refl))

  pub good_full : Full (cells_of g) (network_by N M g)
  good_full = subst (Full (cells_of g)) (sym (network_of_lem N M g (good_drainable g G))) (network_of_full L g.water r drains (λ c h. refl))

module _ (N : Neighbours) (g : Ground) (G : Good g) where
  -- every level is a lifted height
  pub levels-lifted : (c : ℕ) → c < cells_of g → level (land_by N g) (receivers (land_by N g)) c ≤ 16000000
  levels-lifted c h =
      level-most (land_by N g) (receivers (land_by N g)) (drains N Carve g G) c h refl 16000000 (λ d k. (good_tile g G N).tile.lifted d)

  -- the tile of the lifted lists is the land of the ground, and its network that of the ground
  pub tile-is-land : tile_land (rule_by N) g.width (map lifted g.heights) g.marks ≡ land_by N g
  tile-is-land = ap (λ (n : ℕ). tile (rule_by N) g.width n (map lifted g.heights) g.marks) (lifted_full g G)

-- basins know no manner
pub one_basins : (N : Neighbours) (M : Manner) (g : Ground) → (lifted_network_by N Carve g).basins ≡ (lifted_network_by N M g).basins
unfolding lifted_network_in
one_basins N M g = refl

module _ (N : Neighbours) (M : Manner) (g : Ground) (G : Good g) where
  pub levels_droppable : {l : List ℕ} → l ≡ (lifted_network_by N M g).levels → Lifted l
  unfolding lifted_network_in
  levels_droppable {l} e k h =
      let f : ℕ → ℕ = level (land_by N g) (receivers (land_by N g)) in
      let m : length l ≡ cells_of g = ap length e ∙ tab-length f (cells_of g) in
      let i : k < cells_of g = omega arith in
      subst (λ (x : ℕ). x ≤ 16000000) (sym (ap (λ (z : List ℕ). at z k) e ∙ tab-at f (cells_of g) k 0 i)) (levels-lifted N g G k i)

  -- six lists that the network stands at the start of, with its levels dropped
  pub network-written : {s' : Network ℕ} {l : List ℤ} (s : Network ℕ) (levels : List ℤ) → s' ≡ onto (lifted_network_by N M g) s
      → l ≡ overwrite (map dropped (lifted_network_by N M g).levels) levels
      → six_lists s'.receivers s'.basins s'.order l s'.drainage s'.wet
      ≡ onto (network_by N M g) (six_lists s.receivers s.basins s.order levels s.drainage s.wet)
  unfolding network_by
  network-written s levels e f =
      six_lists_same (ap (λ (t : Network ℕ). t.receivers) e) (ap (λ (t : Network ℕ). t.basins) e) (ap (λ (t : Network ℕ). t.order) e) f
      (ap (λ (t : Network ℕ). t.drainage) e) (ap (λ (t : Network ℕ). t.wet) e)
