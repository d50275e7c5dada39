-- `basins::look_up` meets its contract.
-- After c turns both lists are filled up to c; the entry at c has not changed yet, so that the cell it names is still there to look up.
-- Assumes nothing.
use mathlib.Core.List.{List}
use mathlib.Core.Path.{◌≡◌}
use Prim.Native.Nat.{ℕ}
use Rattle.basins.specs.Labels.{label_by}
use Rattle.lists.specs.Lists.{at, filled}
use Rattle.rules.specs.Ground.{is_outlet}
use Rattle.basins.proofs.look_up.Given as goal

-- what each cell is to get: the number and the label of the cell that its entry names
abbrev pub number_of : (numbers entries : List ℕ) → ℕ → ℕ
number_of numbers entries d = at numbers (at entries d)

abbrev pub labelFrom : (n : ℕ) (numbers marks entries : List ℕ) → ℕ → ℕ
labelFrom n numbers marks entries d = label_by n (is_outlet marks (at entries d)) (at numbers (at entries d))

abbrev pub invariant-loop-c : goal.invariant-loop-c
invariant-loop-c l =
    (l.entries ≡ filled (number_of l.numbers l.initial.entries) l.c l.initial.entries)
    × (l.labels ≡ filled (labelFrom l.n l.numbers l.marks l.initial.entries) l.c l.initial.labels)
