-- Samples of W-203's comparison: straight and diagonal drops where they are closest, and near the largest drop there is.
-- Assumes nothing.
use Rattle.std.specs.Prelude.{false, true, [], List, ◌∷◌, refl, ◌≡◌, ℕ}
use Rattle.grid.specs.Neighbours.{steeper, steepness}

-- a straight drop and a diagonal one, and which of the two is steeper; or two drops of one kind and one size: neither is
pub data Sample : Type 0 where
  straight_of : (straight diagonal : ℕ) → Sample
  diagonal_of : (straight diagonal : ℕ) → Sample
  neither_of : (drop : ℕ) → Sample

-- what a sample says is what the definition gives: of the window's places 1 and 7 are sides, 0, 2 and 6 are corners
abbrev pub Right : Sample → Type 0
Right (straight_of a b) = (steeper 1 a 0 b ≡ true) × (steeper 0 b 1 a ≡ false)
Right (diagonal_of a b) = (steeper 0 b 1 a ≡ true) × (steeper 1 a 0 b ≡ false)
Right (neither_of d) = (steeper 1 d 7 d ≡ false) × (steeper 2 d 6 d ≡ false)

abbrev pub AllRight : List Sample → Type 0
AllRight [] = Unit {0}
AllRight (s ∷ ss) = Right s × AllRight ss

-- drops of one size: the straight one is steeper; of one kind, neither is
abbrev pub alike : List Sample
alike = straight_of 1 1 ∷ straight_of 16000000 16000000 ∷ neither_of 1 ∷ neither_of 7 ∷ neither_of 16000000 ∷ []

-- 5 and 7: 7 times 7 is 49 and twice 5 times 5 is 50, so the straight one is steeper, by 1; and what one more or less changes
abbrev pub closest5 : List Sample
closest5 = straight_of 5 7 ∷ diagonal_of 5 8 ∷ straight_of 5 6 ∷ diagonal_of 4 7 ∷ straight_of 6 7 ∷ []

-- 12 and 17: 289 and 288, so the diagonal one is, by 1
abbrev pub closest12 : List Sample
closest12 = diagonal_of 12 17 ∷ straight_of 12 16 ∷ diagonal_of 12 18 ∷ diagonal_of 11 17 ∷ straight_of 13 17 ∷ []

-- 29 and 41: 1,681 and 1,682, so the straight one is, by 1
abbrev pub closest29 : List Sample
closest29 = straight_of 29 41 ∷ diagonal_of 29 42 ∷ straight_of 29 40 ∷ diagonal_of 28 41 ∷ straight_of 30 41 ∷ []

-- 6,625,109 and 9,369,319: no greater drops up to 16,000,000 are as close, and the straight one is steeper by 1
abbrev pub closest_of_all : List Sample
closest_of_all =
    straight_of 6625109 9369319 ∷ diagonal_of 6625109 9369320 ∷ diagonal_of 6625108 9369319 ∷ straight_of 6625109 9369318 ∷ []

-- the largest drop: over a corner it is steeper than a straight one of 11,313,708, and less steep than one of 11,313,709
abbrev pub largest : List Sample
largest =
    diagonal_of 11313708 16000000
    ∷ straight_of 11313709 16000000 ∷ straight_of 16000000 15999999 ∷ diagonal_of 1 16000000 ∷ straight_of 16000000 1 ∷ []

pub alike_right : AllRight alike
unfolding steepness
alike_right = ((refl, refl), ((refl, refl), ((refl, refl), ((refl, refl), ((refl, refl), tt)))))

pub closest5_right : AllRight closest5
unfolding steepness
closest5_right = ((refl, refl), ((refl, refl), ((refl, refl), ((refl, refl), ((refl, refl), tt)))))

pub closest12_right : AllRight closest12
unfolding steepness
closest12_right = ((refl, refl), ((refl, refl), ((refl, refl), ((refl, refl), ((refl, refl), tt)))))

pub closest29_right : AllRight closest29
unfolding steepness
closest29_right = ((refl, refl), ((refl, refl), ((refl, refl), ((refl, refl), ((refl, refl), tt)))))

pub closest_of_all_right : AllRight closest_of_all
unfolding steepness
closest_of_all_right = ((refl, refl), ((refl, refl), ((refl, refl), ((refl, refl), tt))))

pub largest_right : AllRight largest
unfolding steepness
largest_right = ((refl, refl), ((refl, refl), ((refl, refl), ((refl, refl), ((refl, refl), tt)))))
