-- What the code has read of an accepted record is the ground of the record.
-- Assumes nothing.
use mathlib.Core.List.{List}
use mathlib.Core.Path.{ap, ◌∙◌, ◌≡◌}
use Prim.Native.Nat.{ℕ, ◌*◌}
use lib.IntN.{ℤ}
use Rattle.ground.specs.Record.{ground_of_record}
use Rattle.heights.specs.Bits.{heights_at}
use Rattle.lists.specs.Lists.{overwrite, stretch}
use Rattle.rules.specs.Ground.{cells_of}
use Rattle.sections.specs.LittleEndian.{numbers_at}

-- n is the code's number of cells
module _ (s : List ℕ) {n : ℕ} (e : n ≡ cells_of (ground_of_record s)) where
  pub heights_read : {l : List ℤ} (old : List ℤ) → l ≡ overwrite (heights_at s 0 n) old → l ≡ overwrite (ground_of_record s).heights old
  unfolding ground_of_record
  heights_read old h = h ∙ ap (λ (m : ℕ). overwrite (heights_at s 0 m) old) e

  pub marks_read : {l : List ℕ} (old : List ℕ) → l ≡ overwrite (stretch (4 * n) n s) old → l ≡ overwrite (ground_of_record s).marks old
  unfolding ground_of_record
  marks_read old h = h ∙ ap (λ (m : ℕ). overwrite (stretch (4 * m) m s) old) e

  pub water_read : {l : List ℕ} (old : List ℕ) → l ≡ overwrite (numbers_at 2 s (5 * n) n) old → l ≡ overwrite (ground_of_record s).water old
  unfolding ground_of_record
  water_read old h = h ∙ ap (λ (m : ℕ). overwrite (numbers_at 2 s (5 * m) m) old) e
