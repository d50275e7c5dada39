-- The lists that spreading works on: counts with a margin of 65 entries before and after, so that cell c's count stands at place c + 65, and a
-- queue of such places. A cell that is visited offers a count to the places around it.
-- Assumes nothing.
use Rattle.std.specs.Prelude.{Bool, cond, not, ◌&&◌, [], List, map, ◌++◌, ◌∷◌, ℕ, ◌%◌, ◌*◌, ◌+◌, ◌-◌, ◌/◌, ◌<◌, ◌≤◌, eqb, length, set, take}
use Rattle.grid.specs.Masks.{bit_of}
use Rattle.grid.specs.Window.{around}
use Rattle.lists.specs.Lists.{at, keep, upto}
use Rattle.spread.specs.Steps.{none}
use Rattle.grid.specs.declared.Neighbours.{Neighbours}
use Rattle.grid.specs.declared.Neighbours.TheVariants.{Eight, Four}

-- counts, the places in the queue, and their number
pub record Wave : Type 0 where
  pub counts : List ℕ
  pub queue : List ℕ
  pub tail : ℕ

-- of the list that the queue stands in, what is past the tail doesn't count
abbrev pub wave : (counts queue : List ℕ) (tail : ℕ) → Wave
wave counts queue tail = record { counts = counts; queue = take tail queue; tail = tail }

-- place i gets count v and goes into the queue
abbrev pub entered : (v i : ℕ) → Wave → Wave
entered v i s = record { counts = set s.counts i v; queue = s.queue ++ (i ∷ []); tail = s.tail + 1 }

-- the same where the bit is 1 and nothing is counted there yet
unfoldable pub offered : (bit v i : ℕ) → Wave → Wave
offered bit v i s = cond (eqb bit 1 && eqb (at s.counts i) none) (entered v i s) s

-- the bit that a mask has for place p of the window
abbrev pub bit_at : (mask p : ℕ) → ℕ
bit_at mask p = mask / bit_of around p % 2

-- where place p of the window around a cell is counted, if the cell itself is counted at `here`
abbrev pub place_at : (w here p : ℕ) → ℕ
place_at w here p = here + p / 3 * w + p % 3 - (w + 1)

-- count v is offered to places of a window, one after the other
unfoldable pub offers : (w here mask v : ℕ) → List ℕ → Wave → Wave
offers w here mask v [] s = s
offers w here mask v (p ∷ ps) s = offers w here mask v ps (offered (bit_at mask p) v (place_at w here p) s)

-- the same to the places so many before the one here and after it; their bits are the lowest of `back` and of `on`
abbrev pub both_offered : (back on v here step : ℕ) → Wave → Wave
both_offered back on v here step s = offered (on % 2) v (here + step) (offered (back % 2) v (here - step) s)

-- a place of the window and its opposite, and so on: first the sides, then the corners where they are asked for
abbrev pub corners_by : Neighbours → List ℕ
corners_by Four = []
corners_by Eight = 2 ∷ 6 ∷ 0 ∷ 8 ∷ []

abbrev pub offered_by : Neighbours → List ℕ
offered_by N = 1 ∷ 7 ∷ 3 ∷ 5 ∷ corners_by N

-- the list has room past the queue
abbrev pub RoomPast : Wave → (list : List ℕ) → Type 0
RoomPast s list = (s.tail < length list) × (s.tail ≤ 4096)

-- cells to begin with: count 0, and some neighbour to go on to
abbrev pub begins : (masks counts : List ℕ) → ℕ → Bool
begins masks counts c = eqb (at counts (c + 65)) 0 && not (eqb (at masks c) 0)

-- their places among the first k cells
abbrev pub beginnings : (masks counts : List ℕ) (k : ℕ) → List ℕ
beginnings masks counts k = map (λ c. c + 65) (keep (begins masks counts) (upto k))
