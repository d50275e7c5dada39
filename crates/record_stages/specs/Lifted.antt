-- Heights in a record, lifted.
-- Assumes nothing.
use Rattle.std.specs.Prelude.{true, List, ◌≡◌, ℕ, ◌*◌, ◌<◌, ℤ}
use Rattle.heights.specs.Bits.{signed_of}
use Rattle.sections.specs.LittleEndian.{number_at}
use Rattle.rules.specs.Ground.{height_in_range, lifted}

-- the height of cell k: the heights start at byte 0, four bytes each
abbrev pub signed_at : List ℕ → ℕ → ℤ
signed_at s k = signed_of (number_at 4 s (4 * k))

abbrev pub lifted_at : List ℕ → ℕ → ℕ
lifted_at s k = lifted (signed_at s k)

-- the heights of the first n cells are in range
abbrev pub InRangeAt : List ℕ → ℕ → Type 0
InRangeAt s n = (k : ℕ) → k < n → height_in_range (signed_at s k) ≡ true
