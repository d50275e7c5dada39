-- `sheet::step_weight` meets its contract: the places are tried one after the other (Tries), those of the neighbours asked for.
-- Assumes nothing.
use Rattle.std.proofs.Common.{◌≡◌, ◌/◌, ◌%◌, [], ◌∷◌, refl, arith, rules}
use Rattle.sheet.proofs.Tries.{asked, Asked, tried}
use Rattle.sheet.specs.LevelSteps.{step_weight}
use Rattle.sheet.proofs.step_weight.Goals as goal
use Rattle.sheet.proofs.step_weight.Goals.{After-wrapping_sub_u16-less}

less : (c : After-wrapping_sub_u16-less) → let a = c.args in Asked a.w a.counts.now a.c a.mask c.wrapping_sub_u16-less.result
less c =
    let a = c.args in
    asked a.w a.counts.now a.c a.mask c.wrapping_sub_u16-less.result (search rules) (search rules) c.wrapping_sub_u16-less.ensures.value

pub returns-in-Four : goal.returns-in-Four
unfolding step_weight
returns-in-Four c =
    let at-place = (goal.at.returns-in-Four c).After-wrapping_sub_u16-less in
    let a = c.args in
    rw c.in-Four.is
    (tried (less at-place) 1 (3 ∷ 5 ∷ 7 ∷ []) c.first_of.ensures refl refl
    (tried (less at-place) 3 (5 ∷ 7 ∷ []) c.first_of-left.ensures refl refl
    (tried (less at-place) 5 (7 ∷ []) c.first_of-right.ensures refl refl
    (tried (less at-place) 7 [] c.first_of-below.ensures refl refl refl))))

pub returns-in-Eight : goal.returns-in-Eight
unfolding step_weight
returns-in-Eight c =
    let at-place = (goal.at.returns-in-Eight c).After-wrapping_sub_u16-less in
    let a = c.args in
    let lowest : a.mask % 2 ≡ a.mask / 1 % 2 = omega arith in
    rw c.in-Eight.is
    (tried (less at-place) 0 (1 ∷ 2 ∷ 3 ∷ 5 ∷ 6 ∷ 7 ∷ 8 ∷ []) c.first_of-in-Eight.ensures lowest refl
    (tried (less at-place) 1 (2 ∷ 3 ∷ 5 ∷ 6 ∷ 7 ∷ 8 ∷ []) c.first_of-above.ensures refl refl
    (tried (less at-place) 2 (3 ∷ 5 ∷ 6 ∷ 7 ∷ 8 ∷ []) c.first_of-above_right.ensures refl refl
    (tried (less at-place) 3 (5 ∷ 6 ∷ 7 ∷ 8 ∷ []) c.first_of-left-in-Eight.ensures refl refl
    (tried (less at-place) 5 (6 ∷ 7 ∷ 8 ∷ []) c.first_of-right-in-Eight.ensures refl refl
    (tried (less at-place) 6 (7 ∷ 8 ∷ []) c.first_of-below_left.ensures refl refl
    (tried (less at-place) 7 (8 ∷ []) c.first_of-below-in-Eight.ensures refl refl
    (tried (less at-place) 8 [] c.first_of-below_right.ensures refl refl refl))))))))
