-- `lake_stages::record_lakes` meets its contract: what is read is a tile of the ground.
-- Assumes nothing.
use mathlib.Core.List.{List, map}
use mathlib.Core.Path.{subst, sym, ◌∙◌, ◌≡◌}
use Prim.Native.Nat.{ℕ, ◌*◌}
use native.Mathlib.Omega.{arith}
use lib.ListN.{length, replicate, take}
use Rattle.ground.specs.Record.{ground_in}
use Rattle.lake_list.specs.Rows.{FoundIn}
use Rattle.lake_stages.specs.Levels.{levels_on}
use Rattle.record_stages.proofs.LinkedRecord.{read_full, read_land, read_tile}
use Rattle.record_stages.proofs.Reading.{heights_are, in_range-at}
use Rattle.rules.specs.Ground.{lifted}
use Rattle.rules.specs.Land.{Land}
use Rattle.rules.specs.Network.{lifted_network_in}
use Rattle.grid.specs.declared.Neighbours.TheVariants.{Four}
use Rattle.lake_stages.proofs.record_lakes.Goals as goal
use Rattle.lake_stages.proofs.record_lakes.Goals.{After-lift_record}

-- N, as it was counted
abbrev count : After-lift_record → ℕ
count c = c.cells-n.result

counted : (c : After-lift_record) → count c ≡ c.args.size.height * c.args.size.width
counted c = c.cells-n.ensures

-- the lifted heights, as they were left
abbrev heights : After-lift_record → List ℕ
heights c = c.lift_record.new.out

heights_read : (c : After-lift_record)
    → let a = c.args in
    take (count c) (heights c) ≡ map lifted (ground_in a.bytes.now a.size.width a.size.height).heights
heights_read c =
    let a = c.args in
    heights_are a.bytes.now a.size.width a.size.height c.requires.readable.good (replicate 4096 0) (count c) (counted c) c.lift_record.ensures

heights-long : (c : After-lift_record) → length (take (count c) (heights c)) ≡ c.args.size.height * c.args.size.width
heights-long c =
    let a = c.args in
    read_full Four a.bytes.now a.size.width a.size.height c.requires.readable.good (count c) (counted c) (heights c) (heights_read c)

pub lift_record-requires : goal.lift_record-requires
lift_record-requires c =
    let a = c.args in
    let R = c.requires.readable in
    let z = c.cells-n.ensures in
    let f = R.few in
    let l = R.long in
    (omega arith, omega arith, in_range-at a.bytes.now a.size.width a.size.height R.good c.cells-n.result z)

pub slice_bounds-tile_lakes-end : goal.slice_bounds-tile_lakes-end
slice_bounds-tile_lakes-end c =
    let at-place = (goal.at.slice_bounds-tile_lakes-end c).After-lift_record in
    counted at-place ∙ sym (heights-long at-place)

pub tile_lakes-requires : goal.tile_lakes-requires
tile_lakes-requires c =
    let at-place = (goal.at.tile_lakes-requires c).After-lift_record in
    let a = c.args in
    let long = heights-long at-place in
    let room = c.requires.width_in_bounds in record {
      lawful_tile = read_tile Four a.bytes.now a.size.width a.size.height c.requires.readable.good (count at-place) (counted at-place) (heights at-place)
          (heights_read at-place);
      heights_in_bounds = omega (arith, long, room);
    }

pub returns : goal.returns
unfolding levels_on lifted_network_in
returns c =
    let at-place = (goal.at.returns c).After-lift_record in
    let a = c.args in
    subst (λ (L : Land). FoundIn L (levels_on L) c.tile_lakes.result c.tile_lakes.new.rows)
    (read_land Four a.bytes.now a.size.width a.size.height c.requires.readable.good (count at-place) (counted at-place) (heights at-place)
    (heights_read at-place))
    c.tile_lakes.ensures
