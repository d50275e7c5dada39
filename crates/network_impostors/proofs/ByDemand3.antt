-- Demand 3 alone shuts out two of the impostors: on sample E, what their contracts leave in the lists hasn't got what it asks.
-- Assumes nothing.
use mathlib.Core.Bool.{false, false≢true}
use mathlib.Core.List.{List}
use mathlib.Core.Path.{ap, refl, sym, ◌∙◌, ◌≡◌}
use Prim.Native.Nat.{ℕ}
use native.Mathlib.Omega.{arith}
use lib.IntN.{ℤ}
use lib.ListN.{take}
use Rattle.lists.proofs.Repeat.{repeat_fixed}
use Rattle.lists.specs.Lists.{at}
use Rattle.network_impostors.proofs.Inputs.{left_on_E, zeros}
use Rattle.network_impostors.specs.Impostors.{LeavesWrong, own_receivers, zero_levels}
use Rattle.rules.specs.Demand3.{Followed}
use Rattle.rules.specs.FirstWays.{solid_cells}
use Rattle.rules.specs.Land.{Land, land4}
use Rattle.rules.specs.Left.{LeftDemand3}
use Rattle.rules.specs.Network.{drainage, lifted_network, Network, network_of, outlets}
use Rattle.rules.specs.Samples.{ground_e}
use Rattle.grid.specs.declared.Neighbours.TheVariants.{Four}
use Rattle.ground.specs.Judge.{Judged}

-- following a cell that is its own receiver never leaves it, so that no outlet is reached unless it is one
own-not_followed : (L : Land) (r : List ℕ) (c : ℕ) → L.outlet c ≡ false → at r c ≡ c → Followed L r c → ⊥
own-not_followed L r c o e F =
    false≢true (sym (ap L.outlet (repeat_fixed (at r) F.steps c e) ∙ o) ∙ F.outlet_reached)

-- each cell its own receiver: the hill of sample E reaches no outlet
pub own-receiver_demand_3 : (r : Judged) (after : Network ℤ) → LeavesWrong own_receivers ground_e (zeros 3) r after → LeftDemand3 Four ground_e after → ⊥
own-receiver_demand_3 r after d D =
    own-not_followed (land4 ground_e) (take 3 after.receivers) 1 refl
    (ap (λ (s : Network ℤ). at (take 3 s.receivers) 1) (left_on_E own_receivers d))
    (D.demands.followed 1 (omega arith) refl)

-- zeros for drainage: the outlets of sample E would drain 0, and its water is 3
pub zero_levels_demand_3 : (r : Judged) (after : Network ℤ) → LeavesWrong zero_levels ground_e (zeros 3) r after → LeftDemand3 Four ground_e after → ⊥
unfolding network_of lifted_network outlets solid_cells
zero_levels_demand_3 r after d D =
    let drained : ℕ → ℕ = drainage (land4 ground_e) ground_e.water (take 3 after.receivers) in
    let stands : (c : ℕ) → Network ℤ → ℕ = λ c s. at (take 3 s.drainage) c in
    let first : 0 ≡ drained 0 =
    sym (ap (stands 0) (left_on_E zero_levels d)) ∙ ap (λ (l : List ℕ). at l 0) D.drainage_left in
    let last : 0 ≡ drained 2 =
    sym (ap (stands 2) (left_on_E zero_levels d)) ∙ ap (λ (l : List ℕ). at l 2) D.drainage_left in
    omega (arith, first, last, D.demands.rain_adds_up)
