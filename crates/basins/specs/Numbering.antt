-- What numbering leaves: the number of each cell's basin, and each cell's label.
-- Assumes nothing.
use Rattle.std.specs.Prelude.{List, ◌≡◌, ℕ}
use Rattle.basins.specs.Jumps.{FirstReceivers}
use Rattle.basins.specs.Labels.{label_by}
use Rattle.lists.specs.Lists.{filled}
use Rattle.rules.specs.FirstWays.{basin, singular_of}
use Rattle.rules.specs.Ground.{is_outlet}
use Rattle.rules.specs.Land.{Land}

-- the label of cell c by the marks of n cells, whatever they mark: that of the singular cell that it leads to
abbrev pub label_in : Land → (n : ℕ) (marks : List ℕ) → ℕ → ℕ
label_in L n marks c = label_by n (is_outlet marks (singular_of L c)) (basin L c)

-- what `basin_numbers` promises: where the entries are the first receivers of a land, each becomes the number of its cell's basin, and
-- each cell gets its label
pub record BasinsNumbered (n : ℕ) (marks entries labels entries' labels' : List ℕ) : Type 0 where
  pub numbers_are : (L : Land) → FirstReceivers L n entries → entries' ≡ filled (basin L) n entries
  pub labels_are : (L : Land) → FirstReceivers L n entries → labels' ≡ filled (label_in L n marks) n labels
