-- `lake_stages::walk_levels` meets its contract: of what the walk leaves, the levels are kept.
-- Assumes nothing.
use Rattle.lake_stages.specs.Levels.{levels_on}
use Rattle.lists.specs.Lists.{filled}
use Rattle.rules.specs.Carving.{receivers}
use Rattle.rules.specs.Land.{rule4}
use Rattle.rules.specs.Tile.{tile_land}
use Rattle.lake_stages.proofs.walk_levels.Goals as goal

pub returns : goal.returns
unfolding levels_on filled
returns c =
    let a = c.args in
    (c.walk_links.ensures (receivers (tile_land rule4 a.w a.heights.now a.marks.now)) c.requires.lawful_tile.1).levels_are
