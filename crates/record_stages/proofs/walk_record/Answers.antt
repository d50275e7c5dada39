-- `record_stages::walk_record` meets its contract: the links are those that the walk asks for, its order is what drainage asks for, and
-- the water of the record is that of the ground.
-- Assumes nothing.
use mathlib.Core.List.{[], List, map}
use mathlib.Core.Path.{ap, refl, subst, sym, ◌∙◌, ◌≡◌}
use Prim.Native.Nat.{ℕ, ◌*◌, ◌-◌}
use native.Mathlib.Omega.{arith}
use lib.ListN.{length, take}
use Rattle.drainage.specs.Giving.{Ordered}
use Rattle.ground.specs.Record.{ground_in}
use Rattle.lists.specs.Lists.{stretch}
use Rattle.record_stages.proofs.LinkedRecord.{heights_here, linked_here, read_full, read_network, read_tile}
use Rattle.rules.specs.Ground.{lifted}
use Rattle.rules.specs.Land.{Land, rule_by}
use Rattle.rules.specs.Network.{Network, receivers_by}
use Rattle.rules.specs.SixLists.{onto, six_lists}
use Rattle.rules.specs.Tile.{LawfulTile, tile_land}
use Rattle.sections.specs.LittleEndian.{numbers_at}
use Rattle.stages.proofs.Stages.{ordered, worked}
use Rattle.stages.specs.Linking.{Linked}
use Rattle.walk.specs.Walk.{Lent, lent, LentHolds}
use Rattle.record_stages.proofs.walk_record.Goals as goal
use Rattle.record_stages.proofs.walk_record.Goals.{After-cells-n, After-walk_by}

-- the lifted heights and the marks, as they are handed on
abbrev heights : After-cells-n → List ℕ
heights c = take c.cells-n.result c.args.lifted.now

abbrev marks : After-cells-n → List ℕ
marks c = let n = c.cells-n.result in stretch (4 * n) (5 * n - 4 * n) c.args.bytes.now

abbrev tile : After-cells-n → Land
tile c = tile_land (rule_by c.args.neighbours) c.args.size.width (heights c) (marks c)

links_are : (c : After-cells-n) → Linked (rule_by c.args.neighbours) c.args.size.width (heights c) (marks c) c.args.links.now
links_are c =
    let a = c.args in
    linked_here a.neighbours a.bytes.now a.size.width a.size.height c.requires.readable.good c.cells-n.result c.cells-n.ensures c.requires.linked_record.0

heights_are : (c : After-cells-n)
    → let a = c.args in heights c ≡ map lifted (ground_in a.bytes.now a.size.width a.size.height).heights
heights_are c =
    let a = c.args in
    heights_here a.neighbours a.bytes.now a.size.width a.size.height c.requires.readable.good c.cells-n.result c.cells-n.ensures c.requires.linked_record.0

heights_full : (c : After-cells-n) → length (heights c) ≡ c.args.size.height * c.args.size.width
heights_full c =
    let a = c.args in
    read_full a.neighbours a.bytes.now a.size.width a.size.height c.requires.readable.good c.cells-n.result c.cells-n.ensures
    a.lifted.now (heights_are c)

tile-is : (c : After-cells-n) → LawfulTile (rule_by c.args.neighbours) c.args.size.width (heights c) (marks c)
tile-is c =
    let a = c.args in
    read_tile a.neighbours a.bytes.now a.size.width a.size.height c.requires.readable.good c.cells-n.result c.cells-n.ensures
    a.lifted.now (heights_are c)

room : (c : After-cells-n)
    → let a = c.args in
    LentHolds (length (heights c)) (lent a.drainage.now a.order.now a.receivers.now a.levels.now a.wet.now)
room c =
    let a = c.args in
    let lists = lent a.drainage.now a.order.now a.receivers.now a.levels.now a.wet.now in
    subst (λ (n : ℕ). LentHolds n lists) (sym (heights_full c)) c.requires.lent_holds

-- the walk's lists, as it left them
abbrev after : After-walk_by → Lent
after c =
    lent c.walk_by.new.stack c.walk_by.new.order c.walk_by.new.receivers c.walk_by.new.levels c.walk_by.new.wets

-- what the walk left is what drainage asks for
drainable : (c : After-walk_by)
    → Ordered (tile (goal.at.After-walk_by c).After-cells-n) (receivers_by c.args.manner (tile (goal.at.After-walk_by c).After-cells-n)) c.cells-n.result
    (after c).order (after c).receivers
drainable c =
    ordered (tile-is (goal.at.After-walk_by c).After-cells-n) c.args.manner c.walk_by.ensures c.cells-n.result
    (c.cells-n.ensures ∙ sym (heights_full (goal.at.After-walk_by c).After-cells-n))

pub slice_bounds-walk_by-end : goal.slice_bounds-walk_by-end
slice_bounds-walk_by-end c = c.cells-n.ensures ∙ sym (heights_full (goal.at.slice_bounds-walk_by-end c).After-cells-n)

pub walk_by-requires : goal.walk_by-requires
walk_by-requires c =
    record {
      lawful_tile = (tile-is (goal.at.walk_by-requires c).After-cells-n, c.requires.linked_record.1);
      margin = links_are (goal.at.walk_by-requires c).After-cells-n;
      lent_holds = room (goal.at.walk_by-requires c).After-cells-n;
    }

pub drain_section-requires : goal.drain_section-requires
drain_section-requires c =
    let z = c.cells-n.ensures in
    let k : length (after (goal.at.drain_section-requires c).After-walk_by).stack ≡ length c.args.drainage.now = c.walk_by.auto.stack in record {
      by_index = (
        tile (goal.at.drain_section-requires c).After-cells-n,
        receivers_by c.args.manner (tile (goal.at.drain_section-requires c).After-cells-n),
        drainable (goal.at.drain_section-requires c).After-walk_by,
      );
      n_in_bounds = (omega (arith, z, c.requires.readable.long), omega (arith, z, c.requires.lent_holds.fits_stack, k));
    }

-- of basins nothing is said, so that any list of them will do
pub returns : goal.returns
returns c =
    let at-place = (goal.at.returns c).After-cells-n in
    let a = c.args in
    let s = a.bytes.now in
    let n = c.cells-n.result in
    let z = c.cells-n.ensures in
    let L = tile at-place in
    let lists = six_lists a.receivers.now [] a.order.now a.levels.now a.drainage.now a.wet.now in
    let e =
    worked (tile-is at-place) a.manner c.walk_by.ensures [] (numbers_at 2 s (5 * n) n) n
    (z ∙ sym (heights_full at-place)) refl (c.drain_section.ensures L (receivers_by a.manner L) (drainable (goal.at.returns c).After-walk_by))
    ∙ ap (λ (net : Network ℕ). onto net lists)
    (read_network a.neighbours s a.size.width a.size.height c.requires.readable.good n z a.lifted.now (heights_are at-place) a.manner) in
    let receivers = ap (λ (t : Network ℕ). t.receivers) e in
    let order = ap (λ (t : Network ℕ). t.order) e in
    let levels = ap (λ (t : Network ℕ). t.levels) e in
    let drainage = ap (λ (t : Network ℕ). t.drainage) e in
    let wet = ap (λ (t : Network ℕ). t.wet) e in
    record { receivers_are = receivers; order_is = order; levels_are = levels; drainage_is = drainage; wets_are = wet }
