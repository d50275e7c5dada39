-- `drain::print_linked` meets its contract: what the walk leaves stands in the lists that are printed.
-- Assumes nothing.
use mathlib.Core.List.{List}
use Prim.Native.Nat.{ℕ}
use lib.ListN.{replicate}
use Rattle.ground.specs.Record.{ground_in}
use Rattle.network.proofs.Networks.{network_full}
use Rattle.lists.proofs.Overwrite.{overwrite-take}
use Rattle.rules.specs.Ground.{cells_of}
use Rattle.rules.specs.Network.{lifted_network_of}
use Rattle.grid.specs.declared.Neighbours.TheVariants.{Four}
use Rattle.rules.specs.declared.Manner.TheVariants.{Carve}
use Rattle.drain.proofs.print_linked.Goals as goal

pub walk_record-requires : goal.walk_record-requires
walk_record-requires c =
    let few = c.requires.readable.few in
    record {
      readable = c.requires.readable;
      linked_record = c.requires.linked_record;
      lent_holds = record { fits_stack = few; fits_order = few; fits_receivers = few; fits_levels = few; fits_wets = few };
    }

pub print_lists-requires : goal.print_lists-requires
print_lists-requires c =
    let g = ground_in c.args.bytes.now c.args.size.width c.args.size.height in
    let n = cells_of g in
    let net = lifted_network_of g in
    let F = network_full Four Carve g c.requires.readable.good in
    let zeros : List ℕ = replicate 4096 0 in
    let e = c.walk_record.ensures in
    let receivers = overwrite-take net.receivers zeros n F.receivers_full e.receivers_are in
    let levels = overwrite-take net.levels zeros n F.levels_full e.levels_are in
    let drainage = overwrite-take net.drainage zeros n F.drainage_full e.drainage_is in
    record {
      readable = c.requires.readable;
      receivers_value = (receivers, levels, drainage);
      most_text_in_bounds = c.requires.most_text_in_bounds;
    }
