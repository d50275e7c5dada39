-- The stages: any two outcomes that a contract in src/ allows are equal, but for what stands beside the cells' masks in the list of links.
-- Assumes nothing.
use mathlib.Core.List.{List}
use mathlib.Core.Path.{refl, ◌≡◌}
use Prim.Native.Nat.{ℕ}
use lib.ListN.{drop, length}
use Rattle.lists.proofs.Determined.{one_answer}
use Rattle.lists.proofs.Tab.{tab_same}
use Rattle.lists.specs.Contract.{OneOutcome}
use Rattle.lists.specs.Lists.{at, tab}
use Rattle.rules.specs.Land.{Rule}
use Rattle.rules.specs.SixLists.{six_lists}
use Rattle.stages.specs.Linking.{CellsLinked}
use Rattle.stages.proofs.link_cells.Kinds as link-cells-kinds
use Rattle.stages.proofs.link_cells.Reads as link-cells
use Rattle.stages.proofs.link_sides.Kinds as link-sides-kinds
use Rattle.stages.proofs.link_sides.Reads as link-sides
use Rattle.stages.proofs.work_out.Kinds as work-out-kinds
use Rattle.stages.proofs.work_out.Reads as work-out

-- what any tile's linked cells determine: the basins, and the mask of each cell
abbrev basins_and_masks : (n : ℕ) (basins links : List ℕ) → List ℕ × List ℕ
basins_and_masks n basins links = (basins, tab n (at (drop 65 links)))

linked-one : {R : Rule} {w : ℕ} {heights marks before basins links basins' links' : List ℕ} → CellsLinked R w heights marks before basins links
    → CellsLinked R w heights marks before basins' links' → basins_and_masks (length heights) basins links ≡ basins_and_masks (length heights) basins' links'
linked-one {heights = heights} {links = links} {links' = links'} x y =
    let basins = one_answer x.basins_are y.basins_are in
    let masks = tab_same (at (drop 65 links)) (at (drop 65 links')) (length heights)
    (λ c h. one_answer (x.links_are.inside.masks c h) (y.links_are.inside.masks c h)) in
    λ i. (basins i, masks i)

pub link_sides-one : OneOutcome 4 link-sides-kinds.ps link-sides-kinds.r link-sides.Asked link-sides.Learnt
    (λ κs a r e. basins_and_masks (length a.1.0.now) e.1.1.1.0.now e.1.1.1.1.0.now)
link_sides-one κs a p r r' e e' x y = (refl, linked-one x y)

pub link_cells-one : OneOutcome 4 link-cells-kinds.ps link-cells-kinds.r link-cells.Asked link-cells.Learnt
    (λ κs a r e. basins_and_masks (length a.1.1.0.now) e.1.1.1.1.0.now e.1.1.1.1.1.0.now)
link_cells-one κs a p r r' e e' x y = (refl, linked-one x y)

-- the six lists
pub work_out-one : OneOutcome 9 work-out-kinds.ps work-out-kinds.r work-out.Asked work-out.Learnt
    (λ κs a r e. six_lists e.1.1.1.1.1.1.0.now e.1.1.1.1.1.1.1.0.now e.1.1.1.1.1.1.1.1.0.now
    e.1.1.1.1.1.1.1.1.1.0.now e.1.1.1.1.1.1.1.1.1.1.0.now e.1.1.1.1.1.1.1.1.1.1.1.0.now)
work_out-one κs a p r r' e e' x y = (refl, one_answer x y)
