-- `network_record::write_accepted` meets its contract: what linking leaves is what writing asks for.
-- Assumes nothing.
use mathlib.Core.Path.{◌∙◌}
use lib.ListN.{replicate}
use Rattle.ground.specs.Record.{ground_in}
use Rattle.network.proofs.Networks.{network_full, one_basins}
use Rattle.lists.proofs.Overwrite.{overwrite-take}
use Rattle.rules.specs.Ground.{cells_of}
use Rattle.rules.specs.Network.{lifted_network_by}
use Rattle.rules.specs.declared.Manner.TheVariants.{Carve}
use Rattle.network_record.proofs.write_accepted.Goals as goal

pub write_linked-requires : goal.write_linked-requires
write_linked-requires c =
    let g = ground_in c.args.bytes.now c.args.size.width c.args.size.height in
    let linked = c.link_record.ensures in
    let full = (network_full c.args.neighbours Carve g c.requires.readable.good).basins_full in
    let basins = overwrite-take (lifted_network_by c.args.neighbours Carve g).basins (replicate 4096 0) (cells_of g) full linked.basins_are in
    let links-length = c.link_record.auto.links in
    record {
      readable = c.requires.readable;
      linked_record = (linked.linked, links-length);
      basins_value = basins ∙ one_basins c.args.neighbours c.args.manner g;
      width_in_bounds = c.requires.width_in_bounds;
    }
