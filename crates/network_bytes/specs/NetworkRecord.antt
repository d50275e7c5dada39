-- Document 01, "Records": the bytes of a network record as one definition.
-- Assumes nothing.
use Rattle.std.specs.Prelude.{List, map, ◌++◌, ℕ, ◌*◌, ◌+◌, ◌≤◌, ℤ, length, take}
use Rattle.heights.specs.Bits.{height_section}
use Rattle.sections.specs.LittleEndian.{bytes_of, section_of}
use Rattle.rules.specs.Ground.{dropped, Lifted}
use Rattle.rules.specs.Network.{Network}
use Rattle.rules.specs.SixLists.{Holds}

-- the six distances back from the trailer's first byte to the first byte of each section: 15N, 13N, 11N, 9N, 5N, N
unfoldable pub distances : ℕ → List ℕ
distances n =
    bytes_of 4 (15 * n) ++ bytes_of 4 (13 * n) ++ bytes_of 4 (11 * n) ++ bytes_of 4 (9 * n) ++ bytes_of 4 (5 * n) ++ bytes_of 4 n

-- the trailer: width (2), height (2), and the distances (4 each)
unfoldable pub network_trailer : ℕ → ℕ → List ℕ
network_trailer w h = bytes_of 2 w ++ bytes_of 2 h ++ distances (h * w)

-- the length of the record of a network of n cells
abbrev pub network_bytes : ℕ → ℕ
network_bytes n = 15 * n + 28

-- the record of a network of w by h cells, 15N + 28 bytes: receivers (2 bytes each), basins (2), order (2), levels (4, signed),
-- drainage (4), wet (1), then the trailer
unfoldable pub network_record : ℕ → ℕ → Network ℤ → List ℕ
network_record w h net =
    section_of 2 net.receivers ++ section_of 2 net.basins ++ section_of 2 net.order
    ++ height_section net.levels ++ section_of 4 net.drainage ++ net.wet
    ++ network_trailer w h

-- the first three sections, and the other three with levels lifted
unfoldable pub flow_sections : List ℕ → List ℕ → List ℕ → List ℕ
flow_sections receivers basins order = section_of 2 receivers ++ section_of 2 basins ++ section_of 2 order

unfoldable pub water_sections : List ℕ → List ℕ → List ℕ → List ℕ
water_sections levels drainage wet = height_section (map dropped levels) ++ section_of 4 drainage ++ wet

-- what writing a network asks of six lists that it stands at the start of: few cells, an entry for each, lifted levels, and
-- room for the record
pub record Writable (w h : ℕ) (s : Network ℕ) (bytes : List ℕ) : Type 0 where
  pub few : h * w ≤ 4096
  pub holds : Holds (h * w) s
  pub levels-lifted : Lifted (take (h * w) s.levels)
  pub room : network_bytes (h * w) ≤ length bytes
