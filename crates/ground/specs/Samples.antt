-- Document 01, "Sample tiles": the record of F both ways, the limits, and the order of refusals, in one table, proved by one theorem.
-- Assumes nothing.
use Rattle.std.specs.Prelude.{[], List, map, ◌++◌, ◌∷◌, refl, ◌≡◌, ℕ, ◌-◌, negsuc, pos, ℤ, length, replicate}
use Rattle.ground.specs.Judge.{Accepted, judge, judge_cells, judge_lists, judge_marks, judge_outlet, judge_record, Judged, number_of, place_of}
use Rattle.ground.specs.Judge.{Refused}
use Rattle.ground.specs.Record.{ground_of_lists, ground_of_record, record_of, trailer}
use Rattle.ground.specs.Rooms.{room_for}
use Rattle.kinds.specs.Kinds.{as_cell}
use Rattle.rules.specs.Samples.{ground_f}
use Rattle.rules.specs.Ground.{Ground}
use Rattle.ground.specs.declared.Refusal.TheVariants.{BadDistance, BadHeight, BadLength, BadMark, BadSize, NoOutlet, NoRoom}

pub data Sample : Type 0 where
  -- the record of a ground, and the ground of a record
  writes : Ground → List ℕ → Sample
  reads : List ℕ → Ground → Sample
  -- a record for output lists of so many entries: the answer, and the number and the place given back
  judges_record : List ℕ → ℕ → Judged → ℕ → ℕ → Sample
  -- lists for an output record of so many bytes
  judges_lists : Ground → ℕ → Judged → ℕ → ℕ → Sample

pub data Result : Type 0 where
  a_record : List ℕ → Result
  a_ground : Ground → Result
  an_answer : Judged → ℕ → ℕ → Result

-- what a sample says
abbrev pub said : Sample → Result
said (writes g s) = a_record s
said (reads s g) = a_ground g
said (judges_record s entries r number place) = an_answer r number place
said (judges_lists g room r number place) = an_answer r number place

-- what the definitions give
abbrev pub computed : Sample → Result
computed (writes g s) = a_record (record_of g)
computed (reads s g) = a_ground (ground_of_record s)
computed (judges_record s entries r number place) =
    let j = judge_record (room_for 1 0 entries) s in an_answer j (number_of j) (place_of j)
computed (judges_lists g room r number place) =
    let j = judge_lists (room_for 7 16 room) g in an_answer j (number_of j) (place_of j)

-- the record of sample F is these bytes, with this mark in the second cell and these three distances
abbrev record_with : (heights : List ℕ) (mark : ℕ) (distances : List ℕ) → List ℕ
record_with heights mark distances =
    heights ++ (0x00 ∷ mark ∷ 0x02 ∷ 0x00 ∷ 0x03 ∷ 0x00 ∷ 0x02 ∷ 0x00 ∷ 0x01 ∷ 0x00 ∷ distances)

abbrev heights_f : List ℕ
heights_f = 0xFD ∷ 0xFF ∷ 0xFF ∷ 0xFF ∷ 0x04 ∷ 0x00 ∷ 0x00 ∷ 0x00 ∷ []

abbrev distances_with : ℕ → ℕ → ℕ → List ℕ
distances_with a b c = a ∷ 0x00 ∷ 0x00 ∷ 0x00 ∷ b ∷ 0x00 ∷ 0x00 ∷ 0x00 ∷ c ∷ 0x00 ∷ 0x00 ∷ 0x00 ∷ []

abbrev distances_f : List ℕ
distances_f = distances_with 0x0E 0x06 0x04

abbrev record_f : List ℕ
record_f =
    0xFD ∷ 0xFF ∷ 0xFF ∷ 0xFF ∷ 0x04 ∷ 0x00 ∷ 0x00 ∷ 0x00 ∷ 0x00 ∷ 0x01 ∷ 0x02 ∷ 0x00 ∷ 0x03 ∷ 0x00 ∷ 0x02 ∷ 0x00 ∷ 0x01 ∷ 0x00
    ∷ 0x0E ∷ 0x00 ∷ 0x00 ∷ 0x00 ∷ 0x06 ∷ 0x00 ∷ 0x00 ∷ 0x00 ∷ 0x04 ∷ 0x00 ∷ 0x00 ∷ 0x00 ∷ []

-- the lowest and the highest 32-bit number in the first cell
abbrev lowest : List ℕ
lowest = 0x00 ∷ 0x00 ∷ 0x00 ∷ 0x80 ∷ 0x00 ∷ 0x00 ∷ 0x00 ∷ 0x00 ∷ []

abbrev highest : List ℕ
highest = 0xFF ∷ 0xFF ∷ 0xFF ∷ 0x7F ∷ 0x00 ∷ 0x00 ∷ 0x00 ∷ 0x00 ∷ []

-- one cell of this height, an outlet
abbrev cell_of_height : ℤ → Ground
cell_of_height z = ground_of_lists 1 1 (z ∷ []) (1 ∷ []) (0 ∷ [])

-- level ground w by h, of n cells, the first an outlet
abbrev level_ground : ℕ → ℕ → ℕ → Ground
level_ground w h n = ground_of_lists w h (replicate n (pos 0)) (1 ∷ replicate (n - 1) 0) (replicate n 0)

-- a row of heights and marks
abbrev row : List ℤ → List ℕ → Ground
row heights marks = ground_of_lists (length heights) 1 heights marks (replicate (length heights) 0)

abbrev pub samples : List Sample
samples =
    -- F both ways, with just room and a little less
    writes ground_f record_f
    ∷ reads record_f ground_f
    ∷ judges_record record_f 2 (Accepted 2 1) 0 0
    ∷ judges_record record_f 1 (Refused NoRoom) 3 0
    ∷ judges_lists ground_f 30 (Accepted 2 1) 0 0
    ∷ judges_lists ground_f 29 (Refused NoRoom) 3 0
    -- 15 and 16 bytes of zeros, and F with a byte in front of it
    ∷ judges_record (replicate 15 0) 0 (Refused BadLength) 2 0
    ∷ judges_record (replicate 16 0) 0 (Refused BadSize) 1 0
    ∷ judges_record (0 ∷ record_f) 0 (Refused BadLength) 2 0
    -- a trailer alone, of 64 by 1 and of 65 by 1
    ∷ judges_record (0x40 ∷ 0x00 ∷ 0x01 ∷ 0x00 ∷ replicate 12 0) 0 (Refused BadLength) 2 0
    ∷ judges_record (0x41 ∷ 0x00 ∷ 0x01 ∷ 0x00 ∷ replicate 12 0) 0 (Refused BadSize) 1 0
    -- each distance off by one, before there is no room
    ∷ judges_record (record_with heights_f 1 distances_f) 2 (Accepted 2 1) 0 0
    ∷ judges_record (record_with heights_f 1 (distances_with 0x0D 0x06 0x04)) 2 (Refused BadDistance) 7 0
    ∷ judges_record (record_with heights_f 1 (distances_with 0x0E 0x07 0x04)) 2 (Refused BadDistance) 7 0
    ∷ judges_record (record_with heights_f 1 (distances_with 0x0E 0x06 0x05)) 1 (Refused BadDistance) 7 0
    -- no room before a bad height, a bad height before a bad mark, a bad mark before no outlet
    ∷ judges_record (record_with lowest 2 distances_f) 1 (Refused NoRoom) 3 0
    ∷ judges_record (record_with lowest 2 distances_f) 2 (Refused (BadHeight (as_cell 0))) 4 0
    ∷ judges_record (record_with highest 2 distances_f) 2 (Refused (BadHeight (as_cell 0))) 4 0
    ∷ judges_record (record_with heights_f 2 distances_f) 2 (Refused (BadMark (as_cell 1))) 5 1
    ∷ judges_record (record_with heights_f 0 distances_f) 2 (Refused NoOutlet) 6 0
    -- the ends of the range
    ∷ judges_lists (cell_of_height (pos 8000000)) 23 (Accepted 1 1) 0 0
    ∷ judges_lists (cell_of_height (pos 8000001)) 23 (Refused (BadHeight (as_cell 0))) 4 0
    ∷ judges_lists (cell_of_height (negsuc 7999999)) 23 (Accepted 1 1) 0 0
    ∷ judges_lists (cell_of_height (negsuc 8000000)) 23 (Refused (BadHeight (as_cell 0))) 4 0
    -- the ends of width and height, before anything else is judged
    ∷ judges_lists (level_ground 64 1 64) 464 (Accepted 64 1) 0 0
    ∷ judges_lists (level_ground 1 64 64) 464 (Accepted 1 64) 0 0
    ∷ judges_lists (level_ground 65 1 65) 471 (Refused BadSize) 1 0
    ∷ judges_lists (level_ground 1 65 64) 0 (Refused BadSize) 1 0
    ∷ judges_lists (level_ground 0 1 0) 0 (Refused BadSize) 1 0
    ∷ judges_lists (level_ground 1 0 0) 0 (Refused BadSize) 1 0
    -- a list of another length, before there is no room
    ∷ judges_lists (level_ground 3 2 5) 0 (Refused BadLength) 2 0
    ∷ judges_lists (ground_of_lists 1 1 (pos 0 ∷ []) (1 ∷ 1 ∷ []) (0 ∷ [])) 0 (Refused BadLength) 2 0
    ∷ judges_lists (ground_of_lists 1 1 (pos 0 ∷ []) (1 ∷ []) []) 0 (Refused BadLength) 2 0
    -- the first bad cell is the place, and all heights are tried before any mark
    ∷ judges_lists (row (pos 0 ∷ pos 9000000 ∷ pos 9000000 ∷ []) (2 ∷ 0 ∷ 0 ∷ [])) 37 (Refused (BadHeight (as_cell 1))) 4 1
    ∷ judges_lists (row (pos 0 ∷ pos 0 ∷ pos 0 ∷ []) (0 ∷ 3 ∷ 2 ∷ [])) 37 (Refused (BadMark (as_cell 1))) 5 1
    ∷ judges_lists (row (pos 0 ∷ pos 0 ∷ []) (0 ∷ 0 ∷ [])) 30 (Refused NoOutlet) 6 0
    ∷ []

-- the definitions give what every sample says
pub ground_samples_right : map computed samples ≡ map said samples
unfolding record_of trailer ground_of_record judge_record judge_lists judge judge_cells judge_marks judge_outlet
ground_samples_right = refl
