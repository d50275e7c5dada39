-- What each impostor of the network call does, on every input: what `Outcome` says of the real call, but for one thing.
-- Assumes nothing.
use Rattle.std.specs.Prelude.{Bool, cond, Err, false, ◌&&◌, ℕ, ◌*◌, eqb, Ok, pos, ℤ}
use Rattle.ground.specs.Judge.{judge_lists, Judged, Refused}
use Rattle.lists.specs.Lists.{tab}
use Rattle.network.specs.Call.{Draws, network_holds}
use Rattle.rules.specs.Ground.{cells_of, Ground}
use Rattle.rules.specs.Network.{network, Network}
use Rattle.rules.specs.Samples.{network_d}
use Rattle.rules.specs.SixLists.{six_lists}
use Rattle.ground.specs.declared.Refusal.TheVariants.{NoOutlet}

-- it refuses every tile with 6, which is right for a tile without an outlet, and leaves what that answer leaves: all as it was
abbrev pub RefusesEveryTile : Ground → (before : Network ℤ) (r : Judged) (after : Network ℤ) → Type 0
RefusesEveryTile g before = Draws (Refused NoOutlet) (network g) before

-- it gives the right answer, but where it accepts it leaves `wrong g` in the place of `network g`
abbrev pub LeavesWrong : (Ground → Network ℤ) → Ground → (before : Network ℤ) (r : Judged) (after : Network ℤ) → Type 0
LeavesWrong wrong g before = Draws (judge_lists (network_holds before) g) (wrong g) before

-- the network of sample D for every 3 by 3 tile, and the right one for every other
abbrev pub sample_dfor_all : Ground → Network ℤ
sample_dfor_all g = cond (eqb g.width 3 && eqb g.height 3) network_d (network g)

-- the right network, but each cell is its own receiver
abbrev pub own_receivers : Ground → Network ℤ
own_receivers g =
    let net = network g in
    six_lists (tab (cells_of g) (λ c. c)) net.basins net.order net.levels net.drainage net.wet

-- the right network, but all levels and all drainage are 0
abbrev pub zero_levels : Ground → Network ℤ
zero_levels g =
    let net = network g in
    six_lists net.receivers net.basins net.order (tab (cells_of g) (λ _. pos 0)) (tab (cells_of g) (λ _. 0)) net.wet

-- what they ask of the answer: N where it accepts, and 0 where it refuses
abbrev pub accepted_cells : Judged → ℕ
accepted_cells (Ok size) = size.height * size.width
accepted_cells (Err why) = 0

-- whether it accepts 3 by 3 cells
abbrev pub accepted_three_by_three : Judged → Bool
accepted_three_by_three (Ok size) = eqb size.width 3 && eqb size.height 3
accepted_three_by_three (Err why) = false
