-- `pairs::height` meets its contract: the greater of the heights of the pair's two cells.
-- Assumes nothing.
use native.Mathlib.Omega.{arith}
use Rattle.pairs.proofs.Pairs.{pair_climbs}
use Rattle.pairs.proofs.height.Goals as goal

pub bounds-heights-index : goal.bounds-heights-index
bounds-heights-index c =
    omega (arith, pair_climbs c.args.w c.args.p c.requires.0)
