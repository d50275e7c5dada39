-- What a count of neighbours (W-203) and a manner (W-205) ask for, and what any call with both answers and leaves: 11, then 12, before all
-- others.
-- Assumes nothing.
use Rattle.std.specs.Prelude.{cond, Err, ℕ, Ok, Result, eqb}
use Rattle.ground.specs.Judge.{Judged, number_of, place_of, Refused}
use Rattle.lists.specs.Allowed.{Allowed}
use Rattle.grid.specs.declared.Neighbours.{Neighbours}
use Rattle.grid.specs.declared.Neighbours.TheVariants.{Eight, Four}
use Rattle.ground.specs.declared.Size.{Size}
use Rattle.network_by.specs.declared.Asked.{Asked}
use Rattle.network_by.specs.declared.NetworkRefusal.{NetworkRefusal}
use Rattle.network_by.specs.declared.NetworkRefusal.TheVariants.{BadCount, BadManner, Ground}
use Rattle.rules.specs.declared.Manner.{Manner}
use Rattle.rules.specs.declared.Manner.TheVariants.{Carve, Sheet}

-- what a count and a manner ask for, or that the count asks for nothing known, or that it does and the manner doesn't
abbrev pub Asking : Type 0
Asking = Result Asked NetworkRefusal

abbrev pub For : Neighbours → Manner → Asking
For N M = Ok (record { neighbours = N; manner = M })

abbrev pub NoCount : Asking
NoCount = Err BadCount

abbrev pub NoManner : Asking
NoManner = Err BadManner

-- the answer to a call with a count and a manner
abbrev pub NetworkAnswer : Type 0
NetworkAnswer = Result Size NetworkRefusal

-- where the tile is judged
abbrev pub Tile : Judged → NetworkAnswer
Tile (Ok size) = Ok size
Tile (Err why) = Err (Ground why)

-- the number that asks for a manner, as `count_by` of crate grid is the count that asks for neighbours
abbrev pub manner_number : Manner → ℕ
manner_number Carve = 1
manner_number Sheet = 2

-- 1 and 2, and no other manner
abbrev pub manner_for : Neighbours → ℕ → Asking
manner_for N manner = cond (eqb manner 1) (For N Carve) (cond (eqb manner 2) (For N Sheet) NoManner)

-- 4 and 8, and no other count; the count is judged first
abbrev pub asked_for : (count manner : ℕ) → Asking
asked_for count manner = cond (eqb count 4) (manner_for Four manner) (cond (eqb count 8) (manner_for Eight manner) NoCount)

-- the number of a refusal: 11 where the count is neither 4 nor 8, 12 where the manner is neither 1 nor 2
abbrev pub why_number : NetworkRefusal → ℕ
why_number BadCount = 11
why_number BadManner = 12
why_number (Ground why) = number_of (Refused why)

-- and its place: 0 where one of them is wrong
abbrev pub why_place : NetworkRefusal → ℕ
why_place BadCount = 0
why_place BadManner = 0
why_place (Ground why) = place_of (Refused why)

-- the number and the place that are given back; 0 and 0 where accepted
abbrev pub network_number : NetworkAnswer → ℕ
network_number (Ok size) = 0
network_number (Err why) = why_number why

abbrev pub network_place : NetworkAnswer → ℕ
network_place (Ok size) = 0
network_place (Err why) = why_place why

-- the answer, where the tile is judged so
abbrev pub judged_by : Asking → Judged → NetworkAnswer
judged_by (Ok asked) j = Tile j
judged_by (Err BadCount) j = Err BadCount
judged_by (Err BadManner) j = Err BadManner
judged_by (Err (Ground why)) j = Err (Ground why)

module _ {B : Type 0} where
  -- what is lent, after an answer: as the call over the neighbours and in the manner asked for leaves it, and as it was where one is wrong
  abbrev pub left_by : Asking → (left : Neighbours → Manner → Judged → B) (before : B) → NetworkAnswer → B
  left_by (Err why) left before r = before
  left_by (Ok asked) left before (Ok size) = left asked.neighbours asked.manner (Ok size)
  left_by (Ok asked) left before (Err BadCount) = before
  left_by (Ok asked) left before (Err BadManner) = before
  left_by (Ok asked) left before (Err (Ground why)) = left asked.neighbours asked.manner (Err why)

  -- what a call with a count and a manner allows
  abbrev pub Counted : (count manner : ℕ) (judged : Judged) (left : Neighbours → Manner → Judged → B) (before : B) (r : NetworkAnswer) (after : B)
      → Type 0
  Counted count manner judged left before = Allowed (judged_by (asked_for count manner) judged) (left_by (asked_for count manner) left before)
