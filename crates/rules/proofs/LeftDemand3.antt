-- Demand 3 holds of any six lists whose first N entries are the network of a ground; and a trace along their receivers reaches the outlet.
-- Assumes nothing.
use mathlib.Core.Path.{ap, refl, subst, sym, ◌∙◌, ◌≡◌}
use Prim.Native.Nat.{◌≤◌}
use lib.IntN.{ℤ}
use lib.ListN.{take}
use Rattle.rules.proofs.NetworkDrains.{network_drains, network_of_lem, tile_demand_3}
use Rattle.rules.proofs.Traces.{trace_reaches, trace_same}
use Rattle.rules.specs.Demand3.{Demand3}
use Rattle.rules.specs.Ground.{cells_of, Drainable, Ground}
use Rattle.rules.specs.Land.{land_by}
use Rattle.rules.specs.Left.{LeftDemand3}
use Rattle.rules.specs.LeftTrace.{LeftTraced}
use Rattle.rules.specs.Network.{lifted_network_in, Network, network_by, network_of, receivers_by}
use Rattle.rules.specs.SixLists.{first_of}
use Rattle.rules.specs.Way.{Drains}
use Rattle.grid.specs.declared.Neighbours.{Neighbours}
use Rattle.rules.specs.declared.Manner.{Manner}

pub left_demand_3 : (N : Neighbours) (M : Manner) (g : Ground) → Drainable g → (s : Network ℤ) → first_of (cells_of g) s ≡ network_by N M g
    → LeftDemand3 N g s
unfolding network_by lifted_network_in
left_demand_3 N M g o s e =
    let r : take (cells_of g) s.receivers ≡ receivers_by M (land_by N g) = ap (λ (t : Network ℤ). t.receivers) e in
    let lists : first_of (cells_of g) s ≡ network_of (land_by N g) g.water (take (cells_of g) s.receivers) =
    e ∙ network_of_lem N M g o ∙ ap (network_of (land_by N g) g.water) (sym r) in
    record {
      demands = subst (Demand3 (land_by N g) g.water) (sym r) (tile_demand_3 N M g o);
      levels_left = ap (λ (t : Network ℤ). t.levels) lists;
      drainage_left = ap (λ (t : Network ℤ). t.drainage) lists;
      drains = subst (Drains (land_by N g)) (sym r) (network_drains N M g o);
    }

-- the receivers of such lists, N at most 4,096, traced from each cell: the outlet and the steps are those of demand 3
pub left_traced : (N : Neighbours) (g : Ground) (s : Network ℤ) → LeftDemand3 N g s → cells_of g ≤ 4096 → LeftTraced N g s
left_traced N g s D few =
    record {
      traced = λ c h.
          let F = D.demands.followed c h refl in
          let r = take (cells_of g) s.receivers in
          record {
            steps = F.steps;
            few_steps = F.few_steps;
            outlet_reached = F.outlet_reached;
            reaches = trace_reaches (land_by N g) r D.drains few c h refl F.way;
            same = trace_same (land_by N g) r D.drains few c h refl;
          };
    }
