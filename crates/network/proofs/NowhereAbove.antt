-- Levels with 8 neighbours are nowhere above those with 4 (W-203), in the signed numbers of the lists: of any six lists that begin with two
-- networks of a ground, in whatever manners, and so of what two calls leave in lent lists.
-- Assumes nothing.
use mathlib.Core.Path.{ap, sym, ◌∙◌, ◌≡◌}
use Prim.Native.Nat.{ℕ, ◌<◌}
use lib.IntN.{pos, ℤ}
use lib.ListN.{get_or}
use lib.Seq.{get_or-take}
use borrow.Author.Tests.{le-ltb}
use Rattle.ground.specs.Good.{Good}
use Rattle.heights.proofs.Heights.{dropped_in_range, lifted-dropped, lifted-order}
use Rattle.network.proofs.AcceptedCalls.{call_accepted, call_network}
use Rattle.network.proofs.Grounds.{good_drainable}
use Rattle.network.proofs.Networks.{levels-lifted}
use Rattle.network.specs.Call.{OutcomeBy}
use Rattle.rules.proofs.MoreNeighbours.{eight_never_higher}
use Rattle.rules.proofs.SixLists.{network_of-level}
use Rattle.rules.specs.Carving.{receivers}
use Rattle.rules.specs.Ground.{cells_of, dropped, Ground}
use Rattle.rules.specs.Land.{land_by}
use Rattle.rules.specs.MoreNeighbours.{NowhereAbove}
use Rattle.rules.specs.Network.{level, lifted_network, lifted_network_in, Network, network_by, network_of}
use Rattle.rules.specs.SixLists.{first_of}
use Rattle.grid.specs.declared.Neighbours.{Neighbours}
use Rattle.grid.specs.declared.Neighbours.TheVariants.{Eight, Four}
use Rattle.rules.specs.declared.Manner.{Manner}
use Rattle.ground.specs.Judge.{Accepted}

-- a level that stands in the lists
module _ (N : Neighbours) (M : Manner) (g : Ground) (s : Network ℤ) (e : first_of (cells_of g) s ≡ network_by N M g) where
  level-here : (c : ℕ) → c < cells_of g → get_or s.levels c (pos 0) ≡ dropped (level (land_by N g) (receivers (land_by N g)) c)
  unfolding network_by network_of lifted_network_in lifted_network
  level-here c h =
      sym (get_or-take (cells_of g) s.levels c (pos 0) h) ∙ ap (λ (t : Network ℤ). get_or t.levels c (pos 0)) e
      ∙ network_of-level (land_by N g) g.water (receivers (land_by N g)) c h

pub good_nowhere_above : (M M' : Manner) (g : Ground) → Good g → (these those : Network ℤ) → first_of (cells_of g) these ≡ network_by Eight M g
    → first_of (cells_of g) those ≡ network_by Four M' g → NowhereAbove g these those
good_nowhere_above M M' g G these those e f c h =
    let a : ℕ = level (land_by Eight g) (receivers (land_by Eight g)) c in
    let b : ℕ = level (land_by Four g) (receivers (land_by Four g)) c in
    let order = lifted-order (dropped b) (dropped a) (dropped_in_range b (levels-lifted Four g G c h)) (dropped_in_range a (levels-lifted Eight g G c h)) in
    rw (level-here Eight M g these e c h, level-here Four M' g those f c h, order, lifted-dropped a, lifted-dropped b)
    (le-ltb b a (eight_never_higher g (good_drainable g G) c h))

-- any two outcomes of a tile that is accepted
pub call_nowhere_above : (M M' : Manner) (g : Ground) (before before' : Network ℤ) {w h w' h' : ℕ} {after after' : Network ℤ}
    → OutcomeBy Eight M g before (Accepted w h) after → OutcomeBy Four M' g before' (Accepted w' h') after' → NowhereAbove g after after'
call_nowhere_above M M' g before before' {after = after} {after' = after'} o o' =
    good_nowhere_above M M' g (call_accepted Eight M g before o).good after after' (call_network Eight M g before o) (call_network Four M' g before' o')
