-- The levels of a land's network, by which its lakes are told.
-- Assumes nothing.
use Rattle.std.specs.Prelude.{List, ℕ}
use Rattle.lists.specs.Lists.{tab}
use Rattle.rules.specs.Carving.{receivers}
use Rattle.rules.specs.Land.{Land}
use Rattle.rules.specs.Network.{level}

-- the levels of carving, lifted
unfoldable pub levels_on : Land → List ℕ
levels_on L = tab L.cells (level L (receivers L))
