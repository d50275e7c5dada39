-- Heights in range.
-- Assumes nothing.
use Rattle.std.specs.Prelude.{true, List, ◌≡◌, ℕ, ◌<◌, pos, ℤ, get_or, length}
use Rattle.rules.specs.Ground.{height_in_range}

-- every height is in range
abbrev pub InRange : List ℤ → Type 0
InRange heights = (k : ℕ) → k < length heights → height_in_range (get_or heights k (pos 0)) ≡ true
