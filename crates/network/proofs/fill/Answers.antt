-- `network::fill` meets its contract: the ground is lifted, worked out, and its levels dropped.
-- Assumes nothing.
use mathlib.Core.List.{List, map}
use mathlib.Core.Path.{ap, subst, sym, ◌∙◌, ◌≡◌}
use Prim.Native.Nat.{ℕ, ◌≤◌}
use native.Mathlib.Omega.{arith}
use lib.ListN.{length, replicate, take}
use lib.Seq.{length-take-le}
use Rattle.ground.proofs.Acceptance.{good_few}
use Rattle.ground.specs.Good.{Good}
use Rattle.ground.specs.Record.{ground_of_lists}
use Rattle.lists.specs.Lists.{overwrite}
use Rattle.network.proofs.Grounds.{good_tile, lifted_full, lifted_taken}
use Rattle.network.proofs.Networks.{levels_droppable, network_full, network-written, tile-is-land}
use Rattle.rules.proofs.SixLists.{first_of_onto}
use Rattle.rules.specs.Ground.{cells_of, dropped, Ground, lifted}
use Rattle.rules.specs.Land.{Land, rule_by}
use Rattle.rules.specs.Network.{lifted_network_by, lifted_network_in, Network}
use Rattle.rules.specs.SixLists.{Full, onto, six_lists}
use Rattle.rules.specs.Tile.{LawfulTile, tile_land}
use Rattle.network.proofs.fill.Goals as goal
use Rattle.network.proofs.fill.Goals.{After-lift_heights, After-work_out}

abbrev ground : After-lift_heights → Ground
ground c = let a = c.args in ground_of_lists a.width a.height a.heights.now a.marks.now a.water.now

good : (c : After-lift_heights) → Good (ground c)
good c = c.requires.0

abbrev count : After-lift_heights → ℕ
count c = c.cells-n.result

counted : (c : After-lift_heights) → count c ≡ cells_of (ground c)
counted c = c.cells-n.ensures

few : (c : After-lift_heights) → count c ≤ 4096
few c = subst (λ (n : ℕ). n ≤ 4096) (sym (counted c)) (good_few (ground c) (good c))

-- N of the 4,096 entries are lifted heights
heights-fit : (c : After-lift_heights) → count c ≤ length c.lift_heights.new.out
heights-fit c = omega (arith, few c, c.lift_heights.auto.out)

heights_here : (c : After-lift_heights) → take (count c) c.lift_heights.new.out ≡ map lifted (ground c).heights
heights_here c = lifted_taken (ground c) (good c) (replicate 4096 0) (count c) (counted c) c.lift_heights.ensures

abbrev before : After-work_out → Network ℕ
before c =
    let a = c.args in
    six_lists a.receivers.now a.basins.now a.order.now (replicate 4096 0) a.drainage.now a.wet.now

abbrev after : After-work_out → Network ℕ
after c =
    six_lists c.work_out.new.receivers c.work_out.new.basins c.work_out.new.order c.work_out.new.levels c.work_out.new.drainage c.work_out.new.wet

worked : (c : After-work_out)
    → let a = c.args in after c ≡ onto (lifted_network_by a.neighbours a.manner (ground (goal.at.After-work_out c).After-lift_heights)) (before c)
worked c =
    let g = ground (goal.at.After-work_out c).After-lift_heights in
    let net : Land → Network ℕ = λ L. onto (lifted_network_in c.args.manner L g.water) (before c) in
    rw c.from-w.ensures at c.work_out.ensures
    ∙ ap (λ (l : List ℕ). net (tile_land (rule_by c.args.neighbours) g.width l g.marks)) (heights_here (goal.at.After-work_out c).After-lift_heights)
    ∙ ap net (tile-is-land c.args.neighbours g (good (goal.at.After-work_out c).After-lift_heights))

levels-here : (c : After-work_out)
    → let a = c.args in
    take (count (goal.at.After-work_out c).After-lift_heights) (after c).levels ≡
    (lifted_network_by a.neighbours a.manner (ground (goal.at.After-work_out c).After-lift_heights)).levels
levels-here c =
    let a = c.args in
    let net = lifted_network_by a.neighbours a.manner (ground (goal.at.After-work_out c).After-lift_heights) in
    let full =
    subst (λ (k : ℕ). Full k net) (sym (counted (goal.at.After-work_out c).After-lift_heights))
    (network_full a.neighbours a.manner (ground (goal.at.After-work_out c).After-lift_heights) (good (goal.at.After-work_out c).After-lift_heights)) in
    ap (λ (s : Network ℕ). s.levels) (first_of_onto (count (goal.at.After-work_out c).After-lift_heights) net (before c) full (worked c))

pub lift_heights-requires : goal.lift_heights-requires
lift_heights-requires c =
    let a = c.args in
    let G = c.requires.0 in
    let f = good_few (ground_of_lists a.width a.height a.heights.now a.marks.now a.water.now) G in
    (omega (arith, G.heights_full), λ k h. G.heights_in_range k (omega (arith, G.heights_full)))

pub slice_bounds-lifted-end : goal.slice_bounds-lifted-end
slice_bounds-lifted-end c = heights-fit (goal.at.slice_bounds-lifted-end c).After-lift_heights

pub slice_bounds-work_out-end : goal.slice_bounds-work_out-end
slice_bounds-work_out-end c =
    let at-place = (goal.at.slice_bounds-work_out-end c).After-lift_heights in
    sym (length-take-le (count at-place) c.lift_heights.new.out (heights-fit at-place))

pub work_out-requires : goal.work_out-requires
work_out-requires c =
    let at-place = (goal.at.work_out-requires c).After-lift_heights in
    let g = ground at-place in
    let G = good at-place in
    let t = heights_here at-place in
    let m : length (take (count at-place) c.lift_heights.new.out) ≡ cells_of g = ap length t ∙ lifted_full g G in
    let H = c.requires.1 in record {
      lawful_tile = (
        rw c.from-w.ensures
            (subst (λ (l : List ℕ). LawfulTile (rule_by c.args.neighbours) g.width l g.marks) (sym t)
            (good_tile g G c.args.neighbours)),
        G.water_full ∙ sym m,
      );
      holds = record {
        receivers_hold = omega (arith, m, H);
        basins_hold = omega (arith, m, H);
        order_holds = omega (arith, m, H);
        levels_hold = omega (arith, m, good_few g G);
        drainage_holds = omega (arith, m, H);
        wet_holds = omega (arith, m, H);
      };
    }

pub drop_levels-requires : goal.drop_levels-requires
drop_levels-requires c =
    let at-place = (goal.at.drop_levels-requires c).After-lift_heights in
    let at-place-2 = (goal.at.drop_levels-requires c).After-work_out in
    let f : count at-place ≤ length (after at-place-2).levels =
    omega (arith, few at-place, c.work_out.auto.levels) in
    let droppable = levels_droppable c.args.neighbours c.args.manner (ground at-place) (good at-place)
    (levels-here at-place-2) in
    (f, omega (arith, counted at-place, c.requires.1), droppable)

pub returns : goal.returns
returns c =
    let at-place = (goal.at.returns c).After-lift_heights in
    let at-place-2 = (goal.at.returns c).After-work_out in
    let levels = c.args.levels.now in
    network-written c.args.neighbours c.args.manner (ground at-place) (good at-place) (before at-place-2) levels (worked at-place-2)
    (c.drop_levels.ensures ∙ ap (λ (l : List ℕ). overwrite (map dropped l) levels) (levels-here at-place-2))
