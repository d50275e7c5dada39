-- What lakes need of a list of levels: no more than the local law, which the levels of a network keep.
-- Assumes nothing.
use Rattle.std.specs.Prelude.{true, List, ◌≡◌, max, ℕ, ◌<◌, ◌≤◌}
use Rattle.lists.specs.Lists.{at}
use Rattle.rules.specs.Land.{Land}

-- a cell's level is at most the greater of its ground and any neighbour's level; neighbours are mutual
pub record Local (L : Land) (levels : List ℕ) : Type 0 where
  pub both_ways : (c d : ℕ) → L.beside c d ≡ true → L.beside d c ≡ true
  pub low : (c d : ℕ) → c < L.cells → d < L.cells → L.beside c d ≡ true → at levels c ≤ max (L.height c) (at levels d)
