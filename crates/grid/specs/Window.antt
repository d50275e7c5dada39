-- What a neighbour is. Around each cell of a tile lies a window of 3 by 3 places, counted row by row; the cell itself has place 4:
--   0 1 2
--   3 4 5
--   6 7 8
-- A neighbour rule is a list of places. The opposite of place p is 8 - p: what stands at p of a cell's window has the cell at 8 - p of its own.
-- Assumes nothing.
use Rattle.std.specs.Prelude.{Bool, cond, ◌&&◌, ◌||◌, [], List, ◌∷◌, ◌≡◌, suc, ℕ, ◌%◌, ◌*◌, ◌+◌, ◌-◌, ◌/◌, ◌<◌, ◌≤◌, eqb, leb}
use Rattle.lists.specs.Ascending.{Sorted}
use Rattle.lists.specs.Lists.{any, ◌∈◌}

-- the four sides: the odd places
abbrev pub sides : List ℕ
sides = 1 ∷ 3 ∷ 5 ∷ 7 ∷ []

-- the four corners: the even places but the middle
abbrev pub corners : List ℕ
corners = 0 ∷ 2 ∷ 6 ∷ 8 ∷ []

-- sides and corners: all places but the middle
abbrev pub around : List ℕ
around = 0 ∷ 1 ∷ 2 ∷ 3 ∷ 5 ∷ 6 ∷ 7 ∷ 8 ∷ []

-- two rows, or two columns, at most one apart
abbrev pub near : ℕ → ℕ → Bool
near a b = leb a (suc b) && leb b (suc a)

-- on a tile w wide, the place of cell b in the window around a, if it lies there
abbrev pub place_of : (w a b : ℕ) → ℕ
place_of w a b = 3 * (suc (b / w) - a / w) + (suc (b % w) - a % w)

-- b is a neighbour of a by a rule's places
abbrev pub beside : (places : List ℕ) (w a b : ℕ) → Bool
beside places w a b = near (a / w) (b / w) && (near (a % w) (b % w) && any (eqb (place_of w a b)) places)

-- document 01's words for the sides: one row and columns one apart, or one column and rows one apart
abbrev pub one_apart : ℕ → ℕ → Bool
one_apart a b = eqb (suc a) b || eqb (suc b) a

abbrev pub share_side : (w a b : ℕ) → Bool
share_side w a b =
    (eqb (a / w) (b / w) && one_apart (a % w) (b % w))
    || (eqb (a % w) (b % w) && one_apart (a / w) (b / w))

-- n cells in whole rows of w
pub record Rows (w n : ℕ) : Type 0 where
  pub wide : 0 < w
  pub whole : n % w ≡ 0

-- at most 64 rows of 64
pub record Grid (w n : ℕ) : Type 0 where
  pub rows : Rows w n
  pub narrow : w ≤ 64
  pub few : n ≤ 4096

-- of n cells in rows of w, d is the one at place p of c's window
pub record Stands (w n c p d : ℕ) : Type 0 where
  pub place : p < 9
  pub row : d / w + 1 ≡ c / w + p / 3
  pub column : d % w + 1 ≡ c % w + p % 3
  pub on : d < n

-- the same, computed: whether the tile has a cell there, and which
unfoldable pub on_tile : (w n c p : ℕ) → Bool
on_tile w n c p =
    (leb 1 (c / w + p / 3) && leb ((c / w + p / 3) * w) n)
    && (leb 1 (c % w + p % 3) && leb (c % w + p % 3) w)

unfoldable pub cell_at : (w c p : ℕ) → ℕ
cell_at w c p = (c / w + p / 3 - 1) * w + (c % w + p % 3 - 1)

-- the cell itself where the tile has none
abbrev pub cell_or : (w n c p : ℕ) → ℕ
cell_or w n c p = cond (on_tile w n c p) (cell_at w c p) c

-- places that can be a rule: ascending, the middle not among them, and with each its opposite
pub record IsRule (places : List ℕ) : Type 0 where
  pub ascending : Sorted 0 places
  pub within : (p : ℕ) → p ∈ places → p < 9
  pub no_middle : 4 ∈ places → ⊥
  pub opposite : (p : ℕ) → p ∈ places → (8 - p) ∈ places
