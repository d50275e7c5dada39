-- Numbering basins: any two outcomes that the contract in src/ allows are equal, for whatever land the entries are the first receivers.
-- Assumes nothing.
use mathlib.Core.List.{List}
use mathlib.Core.Path.{refl}
use Prim.Native.Nat.{ℕ}
use Rattle.lists.proofs.Determined.{one_answer}
use Rattle.lists.specs.Contract.{OneOutcome}
use Rattle.basins.proofs.basin_numbers.Kinds as basin-numbers-kinds
use Rattle.basins.proofs.basin_numbers.Reads as basin-numbers

-- the numbers and the labels
pub basin_numbers_one : OneOutcome 3 basin-numbers-kinds.ps basin-numbers-kinds.r basin-numbers.Asked basin-numbers.Learnt {B = List ℕ × List ℕ}
    (λ κs a r e. (e.1.1.0.now, e.1.1.1.0.now))
basin_numbers_one κs a p r r' e e' x y =
    let (L, F) = p.0 in
    let numbers = one_answer (x.numbers_are L F) (y.numbers_are L F) in
    let labels = one_answer (x.labels_are L F) (y.labels_are L F) in
    (refl, λ i. (numbers i, labels i))
