-- Document 01, "Records": a record ends in a trailer, which starts with the width and the height (2 bytes each).
-- Assumes nothing.
use Rattle.std.specs.Prelude.{List, ℕ, ◌+◌, ◌-◌, length}
use Rattle.sections.specs.LittleEndian.{number_at}

-- where a trailer of `len` bytes starts in a record
abbrev pub trailer_start : (len : ℕ) → List ℕ → ℕ
trailer_start len s = length s - len

-- the width and the height that it names
abbrev pub width_named : (len : ℕ) → List ℕ → ℕ
width_named len s = number_at 2 s (trailer_start len s)

abbrev pub height_named : (len : ℕ) → List ℕ → ℕ
height_named len s = number_at 2 s (trailer_start len s + 2)
