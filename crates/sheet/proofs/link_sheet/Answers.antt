-- `sheet::link_sheet` meets its contract: 4,096 weights are enough.
-- Assumes nothing.
use Rattle.sheet.proofs.Linked.{weights_room}
use Rattle.sheet.proofs.link_sheet.Goals as goal

pub link_weighed-requires : goal.link_weighed-requires
link_weighed-requires c = record {
  by_index = c.requires;
  levels_in_bounds = weights_room c.requires.0.1;
}
