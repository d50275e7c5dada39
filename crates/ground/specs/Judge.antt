-- Document 01, "Numbers given back": a ground is accepted, or refused with the first row of the table that holds.
-- Assumes nothing.
use Rattle.std.specs.Prelude.{Bool, false, not, true, ◌&&◌, List, ℕ, ◌*◌, ◌+◌, eqb, leb, ltb, pos, ℤ, get_or, length, Result, Ok, Err}
use Rattle.ground.specs.Record.{distances_right, ground_in, height_in, width_in}
use Rattle.kinds.specs.Kinds.{as_cell}
use Rattle.lists.specs.Find.{find}
use Rattle.lists.specs.Lists.{at, overwrite}
use Rattle.rules.specs.Ground.{cells_of, Ground, height_in_range, is_outlet}
use Rattle.ground.specs.declared.Refusal.{Refusal}
use Rattle.ground.specs.declared.Refusal.TheVariants.{BadDistance, BadHeight, BadLength, BadMark, BadSize, NoOutlet, NoRoom}
use Rattle.ground.specs.declared.Size.{Size}
use Rattle.kinds.specs.declared.Cell.{Cell}

-- the answer to a ground
abbrev pub Judged : Type 0
Judged = Result Size Refusal

-- accepted, with the width and the height given back
abbrev pub Accepted : ℕ → ℕ → Judged
Accepted w h = Ok (record { width = w; height = h })

-- or refused
abbrev pub Refused : Refusal → Judged
Refused why = Err why

-- the number of a refusal
abbrev pub refusal_number : Refusal → ℕ
refusal_number BadSize = 1
refusal_number BadLength = 2
refusal_number NoRoom = 3
refusal_number (BadHeight c) = 4
refusal_number (BadMark c) = 5
refusal_number NoOutlet = 6
refusal_number BadDistance = 7

-- and its place: the first bad cell of 4 and 5, and 0 of every other
abbrev pub refusal_place : Refusal → ℕ
refusal_place BadSize = 0
refusal_place BadLength = 0
refusal_place NoRoom = 0
refusal_place (BadHeight c) = c.0
refusal_place (BadMark c) = c.0
refusal_place NoOutlet = 0
refusal_place BadDistance = 0

-- the number and the place that are given back; 0 and 0 where accepted
abbrev pub number_of : Judged → ℕ
number_of (Ok size) = 0
number_of (Err why) = refusal_number why

abbrev pub place_of : Judged → ℕ
place_of (Ok size) = 0
place_of (Err why) = refusal_place why

-- refused unless the test holds
abbrev pub must : Bool → Refusal → Judged → Judged
must true why next = next
must false why next = Refused why

-- refused with the first of n cells that passes the test, unless none does
abbrev pub must_none : (ℕ → Bool) → ℕ → (Cell → Refusal) → Judged → Judged
must_none bad n why next = must (leb n (find bad n)) (why (as_cell (find bad n))) next

-- 1: width and height are 1 to 64
abbrev pub size_allowed : ℕ → ℕ → Bool
size_allowed w h = leb 1 w && (leb w 64 && (leb 1 h && leb h 64))

-- 2: every input list has N entries
abbrev pub lists_full : List ℤ → List ℕ → List ℕ → ℕ → Bool
lists_full heights marks water n = eqb (length heights) n && (eqb (length marks) n && eqb (length water) n)

-- 4: the height of cell k is out of range
abbrev pub bad_height : List ℤ → ℕ → Bool
bad_height heights k = not (height_in_range (get_or heights k (pos 0)))

-- 5: the mark of cell k is neither 0 nor 1
abbrev pub bad_mark : List ℕ → ℕ → Bool
bad_mark marks k = ltb 1 (at marks k)

-- 6: some cell is an outlet
unfoldable pub judge_outlet : Ground → Judged
judge_outlet g =
    must (ltb (find (is_outlet g.marks) (cells_of g)) (cells_of g)) NoOutlet (Accepted g.width g.height)

-- 5, then 6
unfoldable pub judge_marks : Ground → Judged
judge_marks g = must_none (bad_mark g.marks) (cells_of g) BadMark (judge_outlet g)

-- 4, then 5, then 6: all heights are tried before any mark
unfoldable pub judge_cells : Ground → Judged
judge_cells g = must_none (bad_height g.heights) (cells_of g) BadHeight (judge_marks g)

-- the table's order, for every call that judges a ground: 1, 2, 7, 3, then the cells. The three tests are those of the call: its input
-- has the length that N asks for, its distances are right, its outputs have room
unfoldable pub judge : (long right room : Bool) → Ground → Judged
judge long right room g =
    must (size_allowed g.width g.height) BadSize
    (must long BadLength
    (must right BadDistance
    (must room NoRoom
    (judge_cells g))))

-- lists; only records have distances. `room n` says that the call's outputs have room for n cells
unfoldable pub judge_lists : (ℕ → Bool) → Ground → Judged
judge_lists room g = judge (lists_full g.heights g.marks g.water (cells_of g)) true (room (cells_of g)) g

-- a record of w by h cells is 7N + 16 bytes long
abbrev pub judge_sized : (ℕ → Bool) → List ℕ → ℕ → ℕ → Judged
judge_sized room s w h = judge (eqb (length s) (7 * (h * w) + 16)) (distances_right s (h * w)) (room (h * w)) (ground_in s w h)

-- a record; one under 16 bytes is refused before its size is read
unfoldable pub judge_record : (ℕ → Bool) → List ℕ → Judged
judge_record room s = must (leb 16 (length s)) BadLength (judge_sized room s (width_in s) (height_in s))

module _ {A : Type 0} where
  -- a lent list or record afterwards: `new` at its start where accepted, and as it was where refused
  abbrev pub leaves : Judged → List A → List A → List A
  leaves (Ok size) new old = overwrite new old
  leaves (Err why) new old = old
