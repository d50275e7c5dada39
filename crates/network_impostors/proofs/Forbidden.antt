-- For each impostor an input on which its contract and that of the network call contradict each other: no call meets both.
-- Assumes nothing.
use mathlib.Core.List.{List}
use mathlib.Core.Path.{ap, refl, sym, ◌∙◌, ◌≡◌}
use Prim.Native.Nat.{ℕ}
use native.Mathlib.Omega.{arith}
use lib.IntN.{negsuc, pos, ℤ}
use lib.ListN.{get_or}
use Rattle.grid.specs.Neighbours.{steepness}
use Rattle.ground.specs.Judge.{judge, judge_cells, judge_lists, judge_marks, judge_outlet, number_of}
use Rattle.lists.specs.Lists.{at}
use Rattle.network.specs.Call.{left, network_holds, Outcome}
use Rattle.network_impostors.proofs.Inputs.{corner_accepted, E_accepted, left_accepted, left_on_E, tile_corner, zeros}
use Rattle.network_impostors.specs.Impostors.{LeavesWrong, own_receivers, RefusesEveryTile, sample_dfor_all, zero_levels}
use Rattle.rules.specs.Carving.{all_but, carved, far_cell, first_way, leads_out, near_cell, outflows, previous, receiver, receivers}
use Rattle.rules.specs.Chain.{join, joined, labels}
use Rattle.rules.specs.FirstWays.{basin, first_receiver, lower_neighbours, neighbours, singular, singular_of, solid_cells}
use Rattle.rules.specs.FirstWays.{steepest_of}
use Rattle.rules.specs.Network.{above, drainage, givers, level, level_within, lifted_network_in, network, Network, network_by, order}
use Rattle.rules.specs.Network.{outlets, through, wet}
use Rattle.rules.specs.Passes.{chosen, crossing_height, crossings, crossings_at, divides, less, less_than, linked, node, passes}
use Rattle.rules.specs.Passes.{same_basins}
use Rattle.rules.specs.Samples.{E_right, ground_a, ground_e, network_d, network_e}
use Rattle.rules.specs.SixLists.{onto}
use Rattle.ground.specs.Judge.{Judged}

-- demand 1: sample A is accepted, and not refused with 6
pub refuses_every_tile : (r : Judged) (after : Network ℤ) → RefusesEveryTile ground_a (zeros 1) r after
    → Outcome ground_a (zeros 1) r after → ⊥
unfolding judge_lists judge judge_cells judge_marks judge_outlet
refuses_every_tile r after d o = let e = ap number_of (sym d.answer ∙ o.answer) in omega (arith, e)

-- the last cell isn't an outlet, and receives to another
corner-receiver : at (onto (network tile_corner) (zeros 9)).receivers 8 ≡ 5
unfolding network_by lifted_network_in solid_cells neighbours lower_neighbours steepness steepest_of first_receiver singular singular_of basin
    divides crossings_at crossings crossing_height less same_basins passes node linked join labels joined less_than
    chosen all_but far_cell near_cell leads_out outflows first_way previous carved receiver receivers level_within
    level givers above outlets order through drainage wet
corner-receiver = refl

-- demand 2: with sample D's network it would be its own receiver
pub sample_d_for_all : (r : Judged) (after : Network ℤ) → LeavesWrong sample_dfor_all tile_corner (zeros 9) r after
    → Outcome tile_corner (zeros 9) r after → ⊥
sample_d_for_all r after d o =
    let last : Network ℤ → ℕ = λ s. at s.receivers 8 in
    let e : last after ≡ 8 = ap last (d.lists ∙ left_accepted network_d (zeros 9) corner_accepted d.answer) in
    let f : last after ≡ 5 =
    ap last (o.lists ∙ left_accepted (network tile_corner) (zeros 9) corner_accepted o.answer) ∙ corner-receiver in
    omega (arith, e, f)

-- what the network call leaves on sample E
right_on_E : {r : Judged} → r ≡ judge_lists (network_holds (zeros 3)) ground_e → left r (network ground_e) (zeros 3) ≡ onto network_e (zeros 3)
right_on_E a =
    left_accepted (network ground_e) (zeros 3) E_accepted a ∙ ap (λ (net : Network ℤ). onto net (zeros 3)) E_right

-- demand 2, rule 6: the hill of sample E would be its own receiver
pub own-receiver : (r : Judged) (after : Network ℤ) → LeavesWrong own_receivers ground_e (zeros 3) r after → Outcome ground_e (zeros 3) r after → ⊥
own-receiver r after d o =
    let hill : Network ℤ → ℕ = λ s. at s.receivers 1 in
    let e : hill after ≡ 1 = ap hill (left_on_E own_receivers d) in
    let f : hill after ≡ 0 = ap hill (o.lists ∙ right_on_E o.answer) in
    omega (arith, e, f)

-- the level of the hill, which isn't negative
abbrev size : ℤ → ℕ
size (pos n) = n
size (negsuc n) = n

abbrev hill_level : List ℤ → ℕ
hill_level levels = size (get_or levels 1 (pos 0))

-- demand 2, rule 7: the hill of sample E would have the level 0
pub zero_levels_rule_7 : (r : Judged) (after : Network ℤ) → LeavesWrong zero_levels ground_e (zeros 3) r after
    → after.levels ≡ (left r (network ground_e) (zeros 3)).levels → ⊥
zero_levels_rule_7 r after d e =
    let levels : Network ℤ → List ℤ = λ s. s.levels in
    let f = ap hill_level (ap levels (sym (left_on_E zero_levels d)) ∙ e ∙ ap levels (right_on_E d.answer)) in
    omega (arith, f)

-- demand 2, rule 9: the first outlet of sample E would drain no water
pub zero_levels_rule_9 : (r : Judged) (after : Network ℤ) → LeavesWrong zero_levels ground_e (zeros 3) r after
    → after.drainage ≡ (left r (network ground_e) (zeros 3)).drainage → ⊥
zero_levels_rule_9 r after d e =
    let drained : Network ℤ → List ℕ = λ s. s.drainage in
    let f = ap (λ (l : List ℕ). at l 0) (ap drained (sym (left_on_E zero_levels d)) ∙ e ∙ ap drained (right_on_E d.answer)) in
    omega (arith, f)

-- so it is shut out, by rule 7 already
pub zero_levels_lem : (r : Judged) (after : Network ℤ) → LeavesWrong zero_levels ground_e (zeros 3) r after → Outcome ground_e (zeros 3) r after → ⊥
zero_levels_lem r after d o = zero_levels_rule_7 r after d (ap (λ (s : Network ℤ). s.levels) o.lists)
