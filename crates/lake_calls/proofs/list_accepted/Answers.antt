-- `lake_calls::list_accepted` meets its contract: lifted, the ground is a lawful tile, and what is found on it is the ground's.
-- Assumes nothing.
use mathlib.Core.List.{List, map}
use mathlib.Core.Path.{ap, subst, sym, ◌∙◌, ◌≡◌}
use Prim.Native.Nat.{ℕ, ◌≤◌}
use native.Mathlib.Omega.{arith}
use lib.ListN.{length, replicate, take}
use lib.Seq.{length-take-le}
use Rattle.ground.proofs.Acceptance.{good_few}
use Rattle.ground.specs.Good.{Good}
use Rattle.ground.specs.Record.{ground_of_lists}
use Rattle.lake_list.specs.Rows.{FoundIn}
use Rattle.lake_stages.proofs.FoundLakes.{found_read}
use Rattle.lake_stages.specs.LakesOn.{lakes_on, too_deep_on}
use Rattle.lake_stages.specs.Levels.{levels_on}
use Rattle.lake_stages.specs.ReadFound.{ReadFound}
use Rattle.network.proofs.Grounds.{good_tile, lifted_full, lifted_taken}
use Rattle.network.proofs.Networks.{tile-is-land}
use Rattle.rules.specs.Ground.{cells_of, Ground, lifted}
use Rattle.rules.specs.Land.{Land, rule4}
use Rattle.rules.specs.Network.{lifted_network_in}
use Rattle.rules.specs.Tile.{LawfulTile, tile_land}
use Rattle.grid.specs.declared.Neighbours.TheVariants.{Four}
use Rattle.lake_calls.proofs.list_accepted.Goals as goal
use Rattle.lake_calls.proofs.list_accepted.Goals.{After-lift_heights, After-tile_lakes-found}

abbrev groundWith : After-lift_heights → List ℕ → Ground
groundWith c water = let a = c.args in ground_of_lists a.width a.height a.heights.now a.marks.now water

abbrev count : After-lift_heights → ℕ
count c = c.cells-n.result

counted : (c : After-lift_heights) (water : List ℕ) → count c ≡ cells_of (groundWith c water)
counted c water = c.cells-n.ensures

few : (c : After-lift_heights) → count c ≤ 4096
few c =
    let w = c.requires in
    subst (λ (n : ℕ). n ≤ 4096) (sym (counted c w.0)) (good_few (groundWith c w.0) w.1)

heights-fit : (c : After-lift_heights) → count c ≤ length c.lift_heights.new.out
heights-fit c = omega (arith, few c, c.lift_heights.auto.out)

heights_here : (c : After-lift_heights) (water : List ℕ) → Good (groundWith c water)
    → take (count c) c.lift_heights.new.out ≡ map lifted (groundWith c water).heights
heights_here c water G = lifted_taken (groundWith c water) G (replicate 4096 0) (count c) (counted c water) c.lift_heights.ensures

read_here : (c : After-tile_lakes-found) (water : List ℕ) → let g = groundWith (goal.at.After-tile_lakes-found c).After-lift_heights water in
    Good g → ReadFound (too_deep_on g) (lakes_on g) c.tile_lakes-found.result c.tile_lakes-found.new.rows
unfolding levels_on lifted_network_in
read_here c water G =
    let g = groundWith (goal.at.After-tile_lakes-found c).After-lift_heights water in
    let Found : Land → Type 0 = λ L. FoundIn L (levels_on L) c.tile_lakes-found.result c.tile_lakes-found.new.rows in
    let long = c.tile_lakes-found.auto.rows in
    found_read g G c.tile_lakes-found.new.rows (omega (arith, long, good_few g G))
    (subst Found (tile-is-land Four g G)
    (subst (λ (l : List ℕ). Found (tile_land rule4 g.width l g.marks)) (heights_here (goal.at.After-tile_lakes-found c).After-lift_heights water G)
    c.tile_lakes-found.ensures))

pub lift_heights-requires : goal.lift_heights-requires
lift_heights-requires c =
    let a = c.args in
    let w = c.requires in
    let G = w.1 in
    let f = good_few (ground_of_lists a.width a.height a.heights.now a.marks.now w.0) G in
    (omega (arith, G.heights_full), λ k h. G.heights_in_range k (omega (arith, G.heights_full)))

pub slice_bounds-lifted-end : goal.slice_bounds-lifted-end
slice_bounds-lifted-end c = heights-fit (goal.at.slice_bounds-lifted-end c).After-lift_heights

pub slice_bounds-tile_lakes-end : goal.slice_bounds-tile_lakes-end
slice_bounds-tile_lakes-end c =
    let at-place = (goal.at.slice_bounds-tile_lakes-end c).After-lift_heights in
    sym (length-take-le (count at-place) c.lift_heights.new.out (heights-fit at-place))

pub tile_lakes-found-requires : goal.tile_lakes-found-requires
tile_lakes-found-requires c =
    let at-place = (goal.at.tile_lakes-found-requires c).After-lift_heights in
    let w = c.requires in
    let g = groundWith at-place w.0 in
    let t = heights_here at-place w.0 w.1 in
    let m : length (take (count at-place) c.lift_heights.new.out) ≡ cells_of g = ap length t ∙ lifted_full g w.1 in record {
      lawful_tile = subst (λ (l : List ℕ). LawfulTile rule4 g.width l g.marks) (sym t) (good_tile g w.1 Four);
      heights_in_bounds = omega (arith, m, good_few g w.1);
    }

pub write_found-requires : goal.write_found-requires
write_found-requires c =
    let w = c.requires in
    let g = groundWith (goal.at.write_found-requires c).After-lift_heights w.0 in
    (too_deep_on g, lakes_on g, read_here (goal.at.write_found-requires c).After-tile_lakes-found w.0 w.1)

pub returns : goal.returns
returns c =
    λ water G.
    let g = groundWith (goal.at.returns c).After-lift_heights water in
    c.write_found.ensures (too_deep_on g) (lakes_on g) (read_here (goal.at.returns c).After-tile_lakes-found water G)
