-- The stages of a record: any two outcomes that a contract in src/ allows are equal, but for what stands past the heights and beside the
-- cells' masks.
-- Assumes nothing.
use mathlib.Core.List.{List, map}
use mathlib.Core.Path.{refl}
use Prim.Native.Nat.{ℕ, ◌*◌}
use lib.ListN.{drop, length, take}
use Rattle.ground.specs.Record.{ground_in}
use Rattle.lists.proofs.Determined.{one_answer}
use Rattle.lists.proofs.Tab.{tab_same}
use Rattle.lists.specs.Contract.{OneOutcome}
use Rattle.lists.specs.Lists.{at, tab}
use Rattle.rules.specs.Ground.{lifted}
use Rattle.walk.specs.Walk.{lent}
use Rattle.record_stages.proofs.lift_record.Kinds as lift-record-kinds
use Rattle.record_stages.proofs.lift_record.Reads as lift-record
use Rattle.record_stages.proofs.link_record.Kinds as link-record-kinds
use Rattle.record_stages.proofs.link_record.Reads as link-record
use Rattle.record_stages.proofs.walk_record.Kinds as walk-record-kinds
use Rattle.record_stages.proofs.walk_record.Reads as walk-record

-- the list
pub lift_record_one : OneOutcome 2 lift-record-kinds.ps lift-record-kinds.r lift-record.Asked lift-record.Learnt (λ κs a r e. e.1.1.0.now)
lift_record_one κs a p r r' e e' x y = (refl, one_answer x y)

-- the heights of the ground in a record, lifted
abbrev heights_in : List ℕ → (w h : ℕ) → List ℕ
heights_in s w h = map lifted (ground_in s w h).heights

-- the heights, the basins, and the mask of each cell
pub link_record-one : OneOutcome 4 link-record-kinds.ps link-record-kinds.r link-record.Asked link-record.Learnt {B = List ℕ × (List ℕ × List ℕ)}
    (λ κs a r e. (
      take (a.1.1.0.height * a.1.1.0.width) e.1.1.1.0.now,
      (
        e.1.1.1.1.0.now,
        tab (length (heights_in a.1.0.now a.1.1.0.width a.1.1.0.height)) (at (drop 65 e.1.1.1.1.1.0.now)),
      ),
    ))
link_record-one κs a p r r' e e' x y =
    let heights = one_answer x.linked.heights_are y.linked.heights_are in
    let basins = one_answer x.basins_are y.basins_are in
    let masks = tab_same (at (drop 65 e.1.1.1.1.1.0.now)) (at (drop 65 e'.1.1.1.1.1.0.now))
    (length (heights_in a.1.0.now a.1.1.0.width a.1.1.0.height))
    (λ c h. one_answer (x.linked.linked.inside.masks c h) (y.linked.linked.inside.masks c h)) in
    (refl, λ i. (heights i, (basins i, masks i)))

-- drainage, order, receivers, levels and wet
pub walk_record-one : OneOutcome 8 walk-record-kinds.ps walk-record-kinds.r walk-record.Asked walk-record.Learnt
    (λ κs a r e. lent e.1.1.1.1.1.1.1.1.1.0.now e.1.1.1.1.1.1.1.0.now e.1.1.1.1.1.1.0.now
    e.1.1.1.1.1.1.1.1.0.now e.1.1.1.1.1.1.1.1.1.1.0.now)
walk_record-one κs a p r r' e e' x y =
    let receivers = one_answer x.receivers_are y.receivers_are in
    let order = one_answer x.order_is y.order_is in
    let levels = one_answer x.levels_are y.levels_are in
    let drainage = one_answer x.drainage_is y.drainage_is in
    let wet = one_answer x.wets_are y.wets_are in
    (refl, λ i. lent (drainage i) (order i) (receivers i) (levels i) (wet i))
