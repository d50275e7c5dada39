-- `network_bytes::write_network` meets its contract: the two halves and the trailer, one after the other, are the record.
-- Assumes nothing.
use mathlib.Core.Path.{subst, sym, ◌≡◌}
use Prim.Native.Nat.{ℕ, ◌*◌}
use lib.ListN.{take}
use borrow.Author.Rules.{rules}
use Rattle.network_bytes.proofs.Laws.{record_written}
use Rattle.rules.specs.Ground.{Lifted}
use Rattle.rules.specs.SixLists.{six_lists}
use Rattle.network_bytes.proofs.write_network.Goals as goal

pub write_water-requires : goal.write_water-requires
write_water-requires c =
    let p = c.requires in
    let e : c.cells-n.result ≡ c.args.height * c.args.width = c.cells-n.ensures.0 in
    record {
      n_in_bounds = search rules;
      n_bound = (search rules, search rules, subst (λ (k : ℕ). Lifted (take k c.args.levels.now)) (sym e) p.levels-lifted);
    }

pub returns : goal.returns
returns c =
    let a = c.args in
    let lists =
    six_lists a.receivers.now a.basins.now a.order.now a.levels.now a.drainage.now a.wet.now in
    record_written a.width a.height c.cells-n.result c.cells-n.ensures.0 lists a.bytes.now c.requires
    c.write_flow.ensures c.write_water.ensures c.write_trailer.ensures
