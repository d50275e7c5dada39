-- One land with the neighbours of another, and perhaps more; and levels that are nowhere above others, which is what this means for water.
-- Assumes nothing.
use Rattle.std.specs.Prelude.{false, true, ◌≡◌, ℕ, ◌<◌, pos, ℤ, get_or}
use Rattle.std.specs.Int.Signed.{lt_z}
use Rattle.rules.specs.Ground.{cells_of, Ground}
use Rattle.rules.specs.Land.{Land}
use Rattle.rules.specs.Network.{Network}

-- L has K's cells, heights and outlets, and every two that are neighbours in K are so in L
pub record MoreNeighbours (K L : Land) : Type 0 where
  pub cells : K.cells ≡ L.cells
  pub height : (c : ℕ) → K.height c ≡ L.height c
  pub outlet : (c : ℕ) → K.outlet c ≡ L.outlet c
  pub beside : (a b : ℕ) → K.beside a b ≡ true → L.beside a b ≡ true

-- of six lists and six others, wherever they stand: no cell's level in these is above its level in those
abbrev pub NowhereAbove : Ground → (these those : Network ℤ) → Type 0
NowhereAbove g these those = (c : ℕ) → c < cells_of g → lt_z (get_or those.levels c (pos 0)) (get_or these.levels c (pos 0)) ≡ false
