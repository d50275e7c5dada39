-- `lake_text::write_row` meets its contract: the four numbers that are read make up the lake of the row.
-- Assumes nothing.
use Rattle.lake_text.proofs.write_row.Goals as goal

pub write_lake-requires : goal.write_lake-requires
write_lake-requires c =
    rw (c.least_in-least.ensures, c.volume_in-volume.ensures, c.count_in-count.ensures, c.level_in-level.ensures)
    c.requires.fits

pub returns : goal.returns
returns c =
    rw (c.least_in-least.ensures, c.volume_in-volume.ensures, c.count_in-count.ensures, c.level_in-level.ensures) at c.write_lake.ensures
