-- Any two answers that a contract allows are equal, and so is what is left. The contracts are those in src/. Of the lists
-- of groups every root; how an entry leads to its root is open.
-- Assumes nothing.
use mathlib.Core.Path.{refl, ◌≡◌}
use native.Mathlib.Omega.{arith}
use Rattle.std.specs.Prelude.{Bool, cond, false, true, ℕ}
use Rattle.lists.proofs.Determined.{one_answer}
use Rattle.lists.specs.Contract.{OneOutcome}
use Rattle.groups.specs.Groups.{root_of}
use Rattle.groups.proofs.alone.Kinds as alone-kinds
use Rattle.groups.proofs.alone.Reads as alone
use Rattle.groups.proofs.find_basin.Kinds as find-basin-kinds
use Rattle.groups.proofs.find_basin.Reads as find-basin
use Rattle.groups.proofs.find_cell.Kinds as find-cell-kinds
use Rattle.groups.proofs.find_cell.Reads as find-cell
use Rattle.groups.proofs.hang_basins.Kinds as hang-basins-kinds
use Rattle.groups.proofs.hang_basins.Reads as hang-basins
use Rattle.groups.proofs.hang_cells.Kinds as hang-cells-kinds
use Rattle.groups.proofs.hang_cells.Reads as hang-cells
use Rattle.groups.proofs.unite.Kinds as unite-kinds
use Rattle.groups.proofs.unite.Reads as unite

pub alone-one : OneOutcome 1 alone-kinds.ps alone-kinds.r alone.Asked alone.Learnt
    (λ κs a r e. e.0.now)
alone-one κs a p r r' e e' x y = (refl, one_answer x y)

-- two answers that are 1 together
same : (r s : Bool) → cond {A = ℕ} r 1 0 ≡ cond s 1 0 → r ≡ s
same true true e = refl
same true false e = absurd (omega arith)
same false true e = absurd (omega arith)
same false false e = refl

pub unite-one : OneOutcome 1 unite-kinds.ps unite-kinds.r unite.Asked unite.Learnt
    (λ κs a r e. root_of e.0.now)
unite-one κs a p r r' e e' x y = (same r r' (one_answer x.0 y.0), λ i b. one_answer (x.1.roots b) (y.1.roots b) i)

pub find_cell-one : OneOutcome 1 find-cell-kinds.ps find-cell-kinds.r find-cell.Asked find-cell.Learnt
    (λ κs a r e. root_of e.0.now)
find_cell-one κs a p r r' e e' x y = ((λ i. record { 0 = one_answer x.0 y.0 i }), λ i b. one_answer (x.1.roots b) (y.1.roots b) i)

pub find_basin-one : OneOutcome 1 find-basin-kinds.ps find-basin-kinds.r find-basin.Asked find-basin.Learnt
    (λ κs a r e. root_of e.0.now)
find_basin-one κs a p r r' e e' x y = ((λ i. record { 0 = one_answer x.0 y.0 i }), λ i b. one_answer (x.1.roots b) (y.1.roots b) i)

pub hang_cells-one : OneOutcome 1 hang-cells-kinds.ps hang-cells-kinds.r hang-cells.Asked hang-cells.Learnt
    (λ κs a r e. root_of e.0.now)
hang_cells-one κs a p r r' e e' x y = (refl, λ i b. one_answer (x.roots b) (y.roots b) i)

pub hang_basins-one : OneOutcome 1 hang-basins-kinds.ps hang-basins-kinds.r hang-basins.Asked hang-basins.Learnt
    (λ κs a r e. root_of e.0.now)
hang_basins-one κs a p r r' e e' x y = (refl, λ i b. one_answer (x.roots b) (y.roots b) i)
