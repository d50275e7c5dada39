-- Document 01, "Records": the bytes of a ground record as one definition, and the ground that a record says.
-- Assumes nothing.
use Rattle.std.specs.Prelude.{Bool, not, ◌&&◌, List, map, ◌++◌, ℕ, ◌*◌, ◌+◌, eqb, ℤ}
use Rattle.heights.specs.Bits.{heights_at, height_section, lifted_bits, signed_of}
use Rattle.lists.specs.Lists.{stretch}
use Rattle.sections.specs.LittleEndian.{bytes_of, number_at, numbers_at, section_of}
use Rattle.sections.specs.Trailer.{height_named, trailer_start, width_named}
use Rattle.rules.specs.Ground.{Ground, height_in_range}

-- the trailer: width (2), height (2), and three distances (4 each) back from its first byte to the first byte of heights, marks and
-- water: 7N, 3N and 2N
unfoldable pub trailer : ℕ → ℕ → List ℕ
trailer w h = bytes_of 2 w ++ bytes_of 2 h ++ bytes_of 4 (7 * (h * w)) ++ bytes_of 4 (3 * (h * w)) ++ bytes_of 4 (2 * (h * w))

-- the record of a ground, 7N + 16 bytes: heights (4 bytes each, signed), marks (1), water (2), then the trailer
unfoldable pub record_of : Ground → List ℕ
record_of g = height_section g.heights ++ g.marks ++ section_of 2 g.water ++ trailer g.width g.height

-- the trailer of a record is its last 16 bytes
abbrev pub trailer_at : List ℕ → ℕ
trailer_at = trailer_start 16

-- the width and the height that it names
abbrev pub width_in : List ℕ → ℕ
width_in = width_named 16

abbrev pub height_in : List ℕ → ℕ
height_in = height_named 16

-- its three distances are those of n cells
abbrev pub distances_right : List ℕ → ℕ → Bool
distances_right s n =
    eqb (number_at 4 s (trailer_at s + 4)) (7 * n)
    && (eqb (number_at 4 s (trailer_at s + 8)) (3 * n) && eqb (number_at 4 s (trailer_at s + 12)) (2 * n))

-- the heights of its first n cells, lifted; bits that are no height's come out above 16,000,000
abbrev pub lifts_in : List ℕ → ℕ → List ℕ
lifts_in s n = map lifted_bits (numbers_at 4 s 0 n)

-- and the bits of its height of cell k are out of range
abbrev pub bad_bits : List ℕ → ℕ → Bool
bad_bits s k = not (height_in_range (signed_of (number_at 4 s (4 * k))))

-- the ground of lists
abbrev pub ground_of_lists : ℕ → ℕ → List ℤ → List ℕ → List ℕ → Ground
ground_of_lists w h heights marks water = record { width = w; height = h; heights = heights; marks = marks; water = water }

-- the ground of a record of w by h cells: the heights start at byte 0, the marks at byte 4N, the water at byte 5N
abbrev pub ground_in : List ℕ → ℕ → ℕ → Ground
ground_in s w h =
    ground_of_lists w h (heights_at s 0 (h * w)) (stretch (4 * (h * w)) (h * w) s) (numbers_at 2 s (5 * (h * w)) (h * w))

-- the ground of a record, with the width and the height of its trailer
unfoldable pub ground_of_record : List ℕ → Ground
ground_of_record s = ground_in s (width_in s) (height_in s)
