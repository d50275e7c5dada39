-- What a network call allows: its answer, and what it leaves in the six lent lists.
-- Assumes nothing.
use Rattle.std.specs.Prelude.{Bool, Err, ℕ, Ok, ℤ}
use Rattle.ground.specs.Judge.{judge_lists, Judged}
use Rattle.ground.specs.Rooms.{room_for}
use Rattle.lists.specs.Allowed.{Allowed}
use Rattle.rules.specs.Ground.{Ground}
use Rattle.rules.specs.Network.{Network, network_by}
use Rattle.rules.specs.SixLists.{onto, shortest}
use Rattle.grid.specs.declared.Neighbours.{Neighbours}
use Rattle.grid.specs.declared.Neighbours.TheVariants.{Four}
use Rattle.rules.specs.declared.Manner.{Manner}
use Rattle.rules.specs.declared.Manner.TheVariants.{Carve}

-- after the call: the network where the tile is accepted, and all as it was where it is refused
abbrev pub left : Judged → (net before : Network ℤ) → Network ℤ
left (Ok size) net before = onto net before
left (Err why) net before = before

-- 3: six lent lists, an entry for each cell: the shortest decides
abbrev pub network_holds : Network ℤ → ℕ → Bool
network_holds before = room_for 1 0 (shortest before)

-- what a call allows that answers `said`, and draws the network `net` where that accepts
abbrev pub Draws : (said : Judged) (net before : Network ℤ) (r : Judged) (after : Network ℤ) → Type 0
Draws said net before = Allowed said (λ r. left r net before)

-- the outcome of a call on a ground, over the neighbours and in the manner asked for: the answer is the judgement of its lists; where it accepts, its network
-- stands at the start of the six lent lists, and where it refuses they are as they were
abbrev pub OutcomeBy : Neighbours → Manner → (g : Ground) (before : Network ℤ) (r : Judged) (after : Network ℤ) → Type 0
OutcomeBy N M g before = Draws (judge_lists (network_holds before) g) (network_by N M g) before

-- document 01's call: 4 neighbours, carved
abbrev pub Outcome : (g : Ground) (before : Network ℤ) (r : Judged) (after : Network ℤ) → Type 0
Outcome = OutcomeBy Four Carve
