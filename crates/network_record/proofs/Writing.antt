-- Six lists that the network of a ground stands at the start of can be written, and what is written is the network record of the ground.
-- Assumes nothing.
use mathlib.Core.List.{List}
use mathlib.Core.Path.{ap, ◌∙◌, ◌≡◌}
use Prim.Native.Nat.{ℕ, ◌≤◌}
use lib.ListN.{length}
use Rattle.network_record.specs.RecordCall.{network_record_by}
use Rattle.ground.proofs.Acceptance.{good_few}
use Rattle.ground.specs.Good.{Good}
use Rattle.lists.specs.Lists.{overwrite}
use Rattle.network.proofs.Networks.{levels_droppable, network_full}
use Rattle.network_bytes.specs.NetworkRecord.{network_bytes, network_record, Writable}
use Rattle.rules.proofs.SixLists.{first_of_holds}
use Rattle.rules.specs.Ground.{cells_of, Ground}
use Rattle.rules.specs.Network.{drop_levels, lifted_network_by, Network, network_by}
use Rattle.rules.specs.SixLists.{first_of}
use Rattle.grid.specs.declared.Neighbours.{Neighbours}
use Rattle.rules.specs.declared.Manner.{Manner}

module _ (N : Neighbours) (M : Manner) (g : Ground) (G : Good g) (s : Network ℕ) (e : first_of (cells_of g) s ≡ lifted_network_by N M g) where
  pub writable : (bytes : List ℕ) → network_bytes (cells_of g) ≤ length bytes → Writable g.width g.height s bytes
  writable bytes room =
      record {
        few = good_few g G;
        holds = first_of_holds (cells_of g) s e (network_full N M g G);
        levels-lifted = levels_droppable N M g G (ap (λ (t : Network ℕ). t.levels) e);
        room = room;
      }

  pub record_written : {out : List ℕ} (bytes : List ℕ)
      → out ≡ overwrite (network_record g.width g.height (drop_levels (first_of (cells_of g) s))) bytes → out ≡ overwrite (network_record_by N M g) bytes
  unfolding network_record_by network_by
  record_written bytes f = f ∙ ap (λ (net : Network ℕ). overwrite (network_record g.width g.height (drop_levels net)) bytes) e
