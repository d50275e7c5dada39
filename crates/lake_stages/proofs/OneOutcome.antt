-- Finding the lakes of a tile and of a record: any two outcomes that a contract in src/ allows are equal, but for what stands past the rows
-- of the lakes, and for the rows where a lake is too deep.
-- Assumes nothing.
use Rattle.lake_list.proofs.OneOutcome.{found_one}
use Rattle.lake_list.specs.Rows.{rows_told}
use Rattle.lists.specs.Contract.{OneOutcome}
use Rattle.lake_stages.proofs.record_lakes.Kinds as record-lakes-kinds
use Rattle.lake_stages.proofs.record_lakes.Reads as record-lakes
use Rattle.lake_stages.proofs.tile_lakes.Kinds as tile-lakes-kinds
use Rattle.lake_stages.proofs.tile_lakes.Reads as tile-lakes

-- the number of lakes and their rows, or the cell of the lake that is too deep
pub tile-lakes-one : OneOutcome 3 tile-lakes-kinds.ps tile-lakes-kinds.r tile-lakes.Asked tile-lakes.Learnt
    (λ κs a r e. rows_told r e.1.1.1.0.now)
tile-lakes-one κs a p r r' e e' x y = found_one x y

pub record_lakes-one : OneOutcome 2 record-lakes-kinds.ps record-lakes-kinds.r record-lakes.Asked record-lakes.Learnt
    (λ κs a r e. rows_told r e.1.1.0.now)
record_lakes-one κs a p r r' e e' x y = found_one x y
