-- Rule 10 of six lists, wherever they stand, in the signed numbers of the ground and of the lists.
-- Assumes nothing.
use Rattle.std.specs.Prelude.{cond, ◌≡◌, ℕ, ◌<◌, pos, ℤ, get_or}
use Rattle.std.specs.Int.Signed.{lt_z}
use Rattle.lists.specs.Lists.{at}
use Rattle.rules.specs.Ground.{cells_of, Ground}
use Rattle.rules.specs.Network.{Network}

-- each cell's entry is 1 where its level is greater than its height, and 0 elsewhere
abbrev pub LeftWet : Ground → Network ℤ → Type 0
LeftWet g s = (c : ℕ) → c < cells_of g → at s.wet c ≡ cond (lt_z (get_or g.heights c (pos 0)) (get_or s.levels c (pos 0))) 1 0
