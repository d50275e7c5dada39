-- The two sums of the last line are one number: the outlets' drainage is all the water (demand 3).
-- Assumes nothing.
use mathlib.Core.Bool.{Bool, true}
use mathlib.Core.List.{List, map}
use mathlib.Core.Path.{ap, refl, ◌∙◌, ◌≡◌}
use Prim.Native.Nat.{ℕ}
use lib.Dec.{eqb}
use lib.ListN.{length}
use Rattle.lists.proofs.Keep.{keep_all, keep_member}
use Rattle.lists.proofs.Map.{map_same}
use Rattle.lists.proofs.Range.{upto-below}
use Rattle.lists.proofs.Tab.{tab-at, tab-is}
use Rattle.lists.specs.Lists.{at, keep, sum, tab, upto}
use Rattle.rules.proofs.NetworkDrains.{tile_demand_3}
use Rattle.rules.specs.Carving.{receivers}
use Rattle.rules.specs.FirstWays.{solid_cells}
use Rattle.rules.specs.Ground.{cells_of, Drainable, Ground}
use Rattle.rules.specs.Land.{Land, land4}
use Rattle.rules.specs.Network.{drainage, lifted_network_in, network, network_by, outlets}
use Rattle.text.specs.Text.{outlet_drainage}
use Rattle.grid.specs.declared.Neighbours.TheVariants.{Four}
use Rattle.rules.specs.declared.Manner.TheVariants.{Carve}

-- the sum over a table's entries
outlets_table : (f : ℕ → ℕ) (marks : List ℕ) (n : ℕ)
    → outlet_drainage (tab n f) marks n ≡ sum (map f (keep (λ c. eqb (at marks c) 1) (upto n)))
unfolding outlet_drainage
outlets_table f marks n =
    let p : ℕ → Bool = λ c. eqb (at marks c) 1 in
    ap sum (map_same (at (tab n f)) f (keep p (upto n)) (λ c m. tab-at f n c 0 (upto-below (keep_member p (upto n) m).0)))

-- on the network of a ground that drains, with water for each cell
pub sums_agree : (g : Ground) → Drainable g → length g.water ≡ cells_of g
    → outlet_drainage (network g).drainage g.marks (cells_of g) ≡ sum g.water
unfolding network_by lifted_network_in outlets solid_cells
sums_agree g o full =
    let L : Land = land4 g in
    let n : ℕ = cells_of g in
    outlets_table (drainage L g.water (receivers L)) g.marks n
    ∙ (tile_demand_3 Four Carve g o).rain_adds_up
    ∙ ap (λ (l : List ℕ). sum (map (at g.water) l)) (keep_all (λ c. true) (upto n) (λ c m. refl))
    ∙ ap sum (tab-is (at g.water) g.water n 0 full (λ k l. refl))
