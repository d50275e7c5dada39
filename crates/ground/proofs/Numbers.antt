-- The number and the place of document 01 tell a refusal: no two are given back alike, and none like an acceptance.
-- Assumes nothing.
use mathlib.Core.Bool.{cond}
use mathlib.Core.Logic.{inl, inr, ◌⊎◌}
use mathlib.Core.Path.{ap, refl, sym, ◌∙◌, ◌≡◌}
use Prim.Native.Nat.{ℕ, ◌≤◌}
use native.Mathlib.Omega.{arith}
use lib.Dec.{eqb}
use Rattle.std.specs.Prelude.{Err, Ok}
use Rattle.ground.specs.Judge.{number_of, place_of, refusal_number, refusal_place}
use Rattle.kinds.specs.Kinds.{as_cell}
use Rattle.ground.specs.declared.Refusal.{Refusal}
use Rattle.ground.specs.declared.Refusal.TheVariants.{BadDistance, BadHeight, BadLength, BadMark, BadSize, NoOutlet, NoRoom}
use Rattle.ground.specs.Judge.{Judged, Accepted, Refused}

-- the refusal that has a number and a place
abbrev refusal_for : (number place : ℕ) → Refusal
refusal_for n p =
    cond (eqb n 1) BadSize
    (cond (eqb n 2) BadLength
    (cond (eqb n 3) NoRoom
    (cond (eqb n 4) (BadHeight (as_cell p)) (cond (eqb n 5) (BadMark (as_cell p)) (cond (eqb n 6) NoOutlet BadDistance)))))

refusal_for_lem : (why : Refusal) → refusal_for (refusal_number why) (refusal_place why) ≡ why
refusal_for_lem BadSize = refl
refusal_for_lem BadLength = refl
refusal_for_lem NoRoom = refl
refusal_for_lem (BadHeight c) = refl
refusal_for_lem (BadMark c) = refl
refusal_for_lem NoOutlet = refl
refusal_for_lem BadDistance = refl

-- a number is 1 to 7: no refusal has that of an acceptance
pub refusal_number_lem : (why : Refusal) → (1 ≤ refusal_number why) × (refusal_number why ≤ 7)
refusal_number_lem BadSize = (omega arith, omega arith)
refusal_number_lem BadLength = (omega arith, omega arith)
refusal_number_lem NoRoom = (omega arith, omega arith)
refusal_number_lem (BadHeight c) = (omega arith, omega arith)
refusal_number_lem (BadMark c) = (omega arith, omega arith)
refusal_number_lem NoOutlet = (omega arith, omega arith)
refusal_number_lem BadDistance = (omega arith, omega arith)

-- two refusals with one number and one place are one refusal
pub number_tells : (a b : Refusal) → refusal_number a ≡ refusal_number b → refusal_place a ≡ refusal_place b → a ≡ b
number_tells a b e f =
    sym (refusal_for_lem a) ∙ ap (λ (n : ℕ). refusal_for n (refusal_place a)) e ∙ ap (refusal_for (refusal_number b)) f ∙ refusal_for_lem b

-- two answers with one number and one place are both accepted, or are one refusal
pub judged_tells : (a b : Judged) → number_of a ≡ number_of b → place_of a ≡ place_of b
    → (((w : ℕ) × (h : ℕ) × (a ≡ Accepted w h)) × ((w : ℕ) × (h : ℕ) × (b ≡ Accepted w h)))
    ⊎ ((why : Refusal) × (a ≡ Refused why) × (b ≡ Refused why))
judged_tells (Ok x) (Ok y) e f = inl ((x.width, x.height, refl), (y.width, y.height, refl))
judged_tells (Ok x) (Err b) e f = absurd (let s = (refusal_number_lem b).0 in omega arith)
judged_tells (Err a) (Ok y) e f = absurd (let s = (refusal_number_lem a).0 in omega arith)
judged_tells (Err a) (Err b) e f = inr (b, ap Refused (number_tells a b e f), refl)
