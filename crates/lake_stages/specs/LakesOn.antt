-- The lakes of a ground: 4 neighbours, and the levels of its network.
-- Assumes nothing.
use Rattle.std.specs.Prelude.{List, ℕ}
use Rattle.lake_rules.specs.Lakes.{Lake, lakes, too_deep}
use Rattle.rules.specs.Ground.{Ground}
use Rattle.rules.specs.Land.{land4}
use Rattle.rules.specs.Network.{lifted_network_of}

unfoldable pub lakes_on : Ground → List Lake
lakes_on g = lakes (land4 g) (lifted_network_of g).levels

-- refusal 10: its outermost lakes of depth above 64, the first one first
unfoldable pub too_deep_on : Ground → List (List ℕ)
too_deep_on g = too_deep (land4 g) (lifted_network_of g).levels
