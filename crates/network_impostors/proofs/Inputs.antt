-- The inputs on which the impostors are shut out, and what is left there: each is an accepted tile, and lists of zeros are lent.
-- Assumes nothing.
use mathlib.Core.List.{[], ◌∷◌}
use mathlib.Core.Path.{ap, refl, ◌∙◌, ◌≡◌}
use Prim.Native.Nat.{ℕ}
use lib.IntN.{pos, ℤ}
use lib.ListN.{replicate}
use Rattle.ground.specs.Judge.{judge, judge_cells, judge_lists, judge_marks, judge_outlet}
use Rattle.ground.specs.Record.{ground_of_lists}
use Rattle.network.specs.Call.{left, network_holds}
use Rattle.network_impostors.specs.Impostors.{LeavesWrong}
use Rattle.rules.specs.Ground.{Ground}
use Rattle.rules.specs.Network.{Network}
use Rattle.rules.specs.Samples.{ground_e}
use Rattle.rules.specs.SixLists.{onto, six_lists}
use Rattle.ground.specs.Judge.{Judged, Accepted}

-- six lists of n zeros are lent
abbrev pub zeros : ℕ → Network ℤ
zeros n = six_lists (replicate n 0) (replicate n 0) (replicate n 0) (replicate n (pos 0)) (replicate n 0) (replicate n 0)

-- a level tile of 3 by 3 cells, with an outlet in the first cell alone
abbrev pub tile_corner : Ground
tile_corner =
    ground_of_lists 3 3 (replicate 9 (pos 0)) (1 ∷ 0 ∷ 0 ∷ 0 ∷ 0 ∷ 0 ∷ 0 ∷ 0 ∷ 0 ∷ []) (replicate 9 1)

-- it is accepted, and so is sample E, which has an outlet on either side of a hill
pub corner_accepted : judge_lists (network_holds (zeros 9)) tile_corner ≡ Accepted 3 3
unfolding judge_lists judge judge_cells judge_marks judge_outlet
corner_accepted = refl

pub E_accepted : judge_lists (network_holds (zeros 3)) ground_e ≡ Accepted 3 1
unfolding judge_lists judge judge_cells judge_marks judge_outlet
E_accepted = refl

-- what is left on a tile that is accepted, for an answer that is right
pub left_accepted : (net before : Network ℤ) {w h : ℕ} {said r : Judged} → said ≡ Accepted w h → r ≡ said → left r net before ≡ onto net before
left_accepted net before e a = ap (λ (j : Judged). left j net before) (a ∙ e)

-- an impostor whose network is wrong leaves it on sample E
pub left_on_E : (wrong : Ground → Network ℤ) {r : Judged} {after : Network ℤ} → LeavesWrong wrong ground_e (zeros 3) r after
    → after ≡ onto (wrong ground_e) (zeros 3)
left_on_E wrong d = d.lists ∙ left_accepted (wrong ground_e) (zeros 3) E_accepted d.answer
