-- `stages::link_cells` meets its contract: of 4,226 entries the middle 4,096 are lent for the links.
-- Assumes nothing.
use Rattle.walk.proofs.LinkMargins.{margin}
use Rattle.stages.proofs.link_cells.Goals as goal

pub returns : goal.returns
returns c =
    let a = c.args in
    let found = c.find_links in
    record {
      basins_are = found.ensures.basins_are;
      links_are = margin a.links.now c.requires.heights_in_bounds.1 found.auto.links found.ensures.linkage;
    }
