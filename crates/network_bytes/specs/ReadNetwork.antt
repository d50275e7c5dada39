-- Document 01, "Records": the network that a network record says.
-- Assumes nothing.
use Rattle.std.specs.Prelude.{List, ℕ, ◌*◌, ℤ}
use Rattle.heights.specs.Bits.{heights_at}
use Rattle.lists.specs.Lists.{stretch}
use Rattle.sections.specs.LittleEndian.{numbers_at}
use Rattle.sections.specs.Trailer.{height_named, trailer_start, width_named}
use Rattle.rules.specs.Network.{Network}

-- the network of a record of w by h cells: receivers start at byte 0, basins at byte 2N, order at 4N, levels at 6N, drainage at 10N, wet at 14N;
-- what is past the wet cells is not read
abbrev pub network_in : List ℕ → ℕ → ℕ → Network ℤ
network_in s w h =
    record {
      receivers = numbers_at 2 s 0 (h * w);
      basins = numbers_at 2 s (2 * (h * w)) (h * w);
      order = numbers_at 2 s (4 * (h * w)) (h * w);
      levels = heights_at s (6 * (h * w)) (h * w);
      drainage = numbers_at 4 s (10 * (h * w)) (h * w);
      wet = stretch (14 * (h * w)) (h * w) s;
    }

-- the trailer of a network record is its last 28 bytes
abbrev pub network_trailer_at : List ℕ → ℕ
network_trailer_at = trailer_start 28

-- the width and the height that it names
abbrev pub network_width_in : List ℕ → ℕ
network_width_in = width_named 28

abbrev pub network_height_in : List ℕ → ℕ
network_height_in = height_named 28

-- the network of a record, with the width and the height of its trailer
unfoldable pub network_of_record : List ℕ → Network ℤ
network_of_record s = network_in s (network_width_in s) (network_height_in s)
