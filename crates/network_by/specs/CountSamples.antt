-- Counts and manners: 4 and 8 ask for neighbours, 1 and 2 for a manner, and no number beside them or 65,536 away does. The count is judged
-- first.
-- Assumes nothing.
use Rattle.std.specs.Prelude.{refl, ◌≡◌}
use Rattle.network_by.specs.Counted.{asked_for, For, NoCount, NoManner}
use Rattle.grid.specs.declared.Neighbours.TheVariants.{Eight, Four}
use Rattle.rules.specs.declared.Manner.TheVariants.{Carve, Sheet}

four : (asked_for 4 1 ≡ For Four Carve) × (asked_for 4 2 ≡ For Four Sheet)
four = (refl, refl)

eight : (asked_for 8 1 ≡ For Eight Carve) × (asked_for 8 2 ≡ For Eight Sheet)
eight = (refl, refl)

-- none, the numbers beside, and between
no_count : (asked_for 0 1 ≡ NoCount) × (asked_for 3 1 ≡ NoCount) × (asked_for 5 2 ≡ NoCount) × (asked_for 7 1 ≡ NoCount) × (asked_for 9 2 ≡ NoCount)
no_count = (refl, refl, refl, refl, refl)

no_manner : (asked_for 4 0 ≡ NoManner) × (asked_for 8 0 ≡ NoManner) × (asked_for 4 3 ≡ NoManner) × (asked_for 8 4 ≡ NoManner)
no_manner = (refl, refl, refl, refl)

-- 4, 8, 1 and 2 in the lowest 16 bits of a larger number, and the largest number of 32 bits
large_count : (asked_for 65540 1 ≡ NoCount) × (asked_for 65544 1 ≡ NoCount) × (asked_for 4294967295 1 ≡ NoCount)
large_count = (refl, refl, refl)

large_manner : (asked_for 4 65537 ≡ NoManner) × (asked_for 8 65538 ≡ NoManner) × (asked_for 4 4294967295 ≡ NoManner)
large_manner = (refl, refl, refl)

-- both wrong, and the two exchanged
both : (asked_for 0 0 ≡ NoCount) × (asked_for 5 3 ≡ NoCount) × (asked_for 1 4 ≡ NoCount) × (asked_for 2 8 ≡ NoCount)
both = (refl, refl, refl, refl)
