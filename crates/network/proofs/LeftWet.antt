-- Rule 10 in the signed numbers of a ground, by any rule without holes and for any receivers that drain: it holds of any six lists that
-- begin with the network, and so of what a network call leaves in the lent lists of any accepted tile.
-- Assumes nothing.
use mathlib.Core.Bool.{Bool, cond, true}
use mathlib.Core.List.{List, map}
use mathlib.Core.Path.{ap, refl, sym, ◌∙◌, ◌≡◌}
use Prim.Native.Nat.{ℕ, ◌<◌}
use native.Mathlib.Omega.{arith}
use lib.Dec.{ltb}
use lib.IntN.{pos, ℤ}
use lib.ListN.{get_or}
use lib.Seq.{get_or-take}
use lib.Signed.{lt_z}
use Rattle.ground.specs.Good.{Good}
use Rattle.heights.proofs.Heights.{dropped_in_range, lifted-dropped, lifted-order}
use Rattle.lists.proofs.Map.{map_at}
use Rattle.lists.proofs.Tab.{tab-at}
use Rattle.lists.specs.Lists.{at}
use Rattle.network.proofs.AcceptedCalls.{call_accepted, call_network}
use Rattle.network.proofs.Grounds.{good_drainable, lifted-low}
use Rattle.network.proofs.Networks.{drains}
use Rattle.network.specs.Call.{OutcomeBy}
use Rattle.rules.proofs.Bounds.{level-most}
use Rattle.rules.proofs.NetworkDrains.{network_of_lem}
use Rattle.rules.proofs.SixLists.{network_of-level}
use Rattle.rules.specs.Ground.{cells_of, dropped, Ground, lifted}
use Rattle.rules.specs.Land.{Land, land_by, land_of, Rule, rule_by}
use Rattle.rules.specs.LeftWet.{LeftWet}
use Rattle.rules.specs.Network.{level, lifted_network, Network, network_by, network_of, receivers_by, wet}
use Rattle.rules.specs.SixLists.{first_of}
use Rattle.rules.specs.Way.{Drains}
use Rattle.grid.specs.declared.Neighbours.{Neighbours}
use Rattle.rules.specs.declared.Manner.{Manner}
use Rattle.ground.specs.Judge.{Accepted}

module _ (R : Rule) (g : Ground) (G : Good g) (r : List ℕ) (D : Drains (land_of R g) r)
    (whole : (c : ℕ) → c < cells_of g → (land_of R g).solid c ≡ true) where
  abbrev L : Land
  L = land_of R g

  -- the lift keeps the order of heights and levels
  network-wet : LeftWet g (network_of (land_of R g) g.water r)
  unfolding network_of lifted_network wet
  network-wet c h =
      let z : ℤ = get_or g.heights c (pos 0) in
      let m : ℕ = level L r c in
      let height : at (map lifted g.heights) c ≡ lifted z = map_at lifted g.heights c (pos 0) 0 (omega (arith, G.heights_full)) in
      let low = level-most L r D c h (whole c h) 16000000 (λ d k. lifted-low g G d) in
      let order = lifted-order z (dropped m) (G.heights_in_range c h) (dropped_in_range m low) in
      tab-at (wet L r) (cells_of g) c 0 h
      ∙ ap (λ (b : Bool). cond b 1 0)
      (ap (λ (x : ℕ). ltb x m) height ∙ ap (ltb (lifted z)) (sym (lifted-dropped m)) ∙ sym order
      ∙ ap (lt_z z) (sym (network_of-level L g.water r c h)))

  pub left-wet : (s : Network ℤ) → first_of (cells_of g) s ≡ network_of (land_of R g) g.water r → LeftWet g s
  left-wet s e c h =
      let z : ℤ = get_or g.heights c (pos 0) in
      sym (get_or-take (cells_of g) s.wet c 0 h) ∙ ap (λ (t : Network ℤ). at t.wet c) e ∙ network-wet c h
      ∙ ap (λ (v : ℤ). cond (lt_z z v) 1 0)
      (ap (λ (t : Network ℤ). get_or t.levels c (pos 0)) (sym e) ∙ get_or-take (cells_of g) s.levels c (pos 0) h)

-- over the neighbours and in the manner asked for
pub good_wet : (N : Neighbours) (M : Manner) (g : Ground) → Good g → (s : Network ℤ) → first_of (cells_of g) s ≡ network_by N M g → LeftWet g s
good_wet N M g G s e =
    left-wet (rule_by N) g G (receivers_by M (land_by N g)) (drains N M g G) (λ c h. refl) s (e ∙ network_of_lem N M g (good_drainable g G))

-- any outcome of a tile that is accepted
pub call_wet : (N : Neighbours) (M : Manner) (g : Ground) (before : Network ℤ) {w h : ℕ} {after : Network ℤ}
    → OutcomeBy N M g before (Accepted w h) after → LeftWet g after
call_wet N M g before {after = after} o = good_wet N M g (call_accepted N M g before o).good after (call_network N M g before o)
