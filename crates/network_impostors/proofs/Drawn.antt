-- An impostor has let the real call draw: each list holds the entries that it writes over.
-- Assumes nothing.
use mathlib.Core.Path.{subst, sym}
use Prim.Native.Nat.{ℕ, ◌≤◌}
use native.Mathlib.Omega.{arith}
use lib.IntN.{ℤ}
use Rattle.ground.proofs.Acceptance.{good_few}
use Rattle.network.proofs.AcceptedCalls.{call_accepted, call_cells, call_full, call_network}
use Rattle.network.specs.Call.{Outcome}
use Rattle.network_impostors.specs.Impostors.{accepted_cells}
use Rattle.rules.proofs.SixLists.{first_of_holds}
use Rattle.rules.specs.Ground.{cells_of, Ground}
use Rattle.rules.specs.Network.{Network}
use Rattle.rules.specs.SixLists.{Holds}
use Rattle.grid.specs.declared.Neighbours.TheVariants.{Four}
use Rattle.rules.specs.declared.Manner.TheVariants.{Carve}
use Rattle.ground.specs.Judge.{Judged}
use Rattle.std.specs.Prelude.{Err, Ok}

module _ (g : Ground) (before : Network ℤ) {drawn : Network ℤ} where
  -- each list holds as many entries as are written over, which are at most 4,096
  pub drawn_holds : (r : Judged) → Outcome g before r drawn → Holds (accepted_cells r) drawn
  drawn_holds (Ok size) o =
      subst (λ (n : ℕ). Holds n drawn) (sym (call_cells Four Carve g before o))
      (first_of_holds (cells_of g) drawn (call_network Four Carve g before o) (call_full Four Carve g before o))
  drawn_holds (Err why) o =
      record {
        receivers_hold = omega arith;
        basins_hold = omega arith;
        order_holds = omega arith;
        levels_hold = omega arith;
        drainage_holds = omega arith;
        wet_holds = omega arith;
      }

  pub drawn_few : (r : Judged) → Outcome g before r drawn → accepted_cells r ≤ 4096
  drawn_few (Ok size) o = rw (call_cells Four Carve g before o) (good_few g (call_accepted Four Carve g before o).good)
  drawn_few (Err why) o = omega arith
