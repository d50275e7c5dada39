-- Lakes as bytes, for C: 16 bytes for each, little-endian.
-- Assumes nothing.
use Rattle.std.specs.Prelude.{List, ◌++◌, ℕ}
use Rattle.heights.specs.Bits.{bits_of}
use Rattle.lake_rules.specs.Lakes.{Lake}
use Rattle.lists.specs.Lists.{flat}
use Rattle.rules.specs.Ground.{dropped}
use Rattle.sections.specs.LittleEndian.{bytes_of}

-- level (4, signed), number of cells (2), least cell (2), volume (8)
unfoldable pub lake_bytes : Lake → List ℕ
lake_bytes x = bytes_of 4 (bits_of (dropped x.level)) ++ bytes_of 2 x.count ++ bytes_of 2 x.least ++ bytes_of 8 x.volume

-- one lake after the other
unfoldable pub lakes_bytes : List Lake → List ℕ
lakes_bytes ls = flat lake_bytes ls
