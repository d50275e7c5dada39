-- Document 01, "Records": little-endian numbers, and the sections that they stand in, with no gaps.
-- Assumes nothing.
use Rattle.std.specs.Prelude.{[], List, ◌∷◌, suc, zero, ℕ, ◌%◌, ◌*◌, ◌+◌, ◌/◌, get_or}
use Rattle.lists.specs.Lists.{flat, tab}

-- the number x in w bytes, the least first
abbrev pub bytes_of : ℕ → ℕ → List ℕ
bytes_of zero x = []
bytes_of (suc w) x = x % 256 ∷ bytes_of w (x / 256)

-- the number in the w bytes of s from index `from` on
abbrev pub number_at : ℕ → List ℕ → ℕ → ℕ
number_at zero s from = 0
number_at (suc w) s from = get_or s from 0 + 256 * number_at w s (suc from)

-- the section of a list of numbers, w bytes each
abbrev pub section_of : ℕ → List ℕ → List ℕ
section_of w xs = flat (bytes_of w) xs

-- the n numbers of the section of s that starts at index `from`, w bytes each
abbrev pub numbers_at : ℕ → List ℕ → ℕ → ℕ → List ℕ
numbers_at w s from n = tab n (λ k. number_at w s (from + w * k))
