-- What the functions that write a text into a lent list ask and promise.
-- Assumes nothing.
use Rattle.std.specs.Prelude.{List, map, ◌≡◌, ℕ, ◌*◌, ◌+◌, ◌≤◌, length, take}
use Rattle.lists.specs.Lists.{overwrite, stored}
use Rattle.rules.specs.Ground.{dropped, Lifted}
use Rattle.text.specs.Text.{cell_lines}

-- there is room for `new` from index `from` on
abbrev pub Fits : ℕ → List ℕ → List ℕ → Type 0
Fits from new text = from + length new ≤ length text

-- `new` was written from index `from` on and ends before index `to`, within the list; every other byte is as it was
pub record Wrote (from : ℕ) (new old text : List ℕ) (to : ℕ) : Type 0 where
  pub bytes : text ≡ stored from new old
  pub end : to ≡ from + length new
  pub within : to ≤ length old

-- what writing the lines of n cells asks: a receiver, a level and a drainage for each, few enough cells, and room
pub record CellsFit (from n : ℕ) (receivers levels drainage text : List ℕ) : Type 0 where
  pub few : n ≤ 4096
  pub receivers_hold : n ≤ length receivers
  pub levels_hold : n ≤ length levels
  pub drainage_holds : n ≤ length drainage
  pub room : Fits from (cell_lines receivers (map dropped levels) drainage n) text

-- the most bytes that the text of a tile can take: 11 for the first line, 31 for each of 4,096 cells, 32 for the last line
abbrev pub most_text : ℕ
most_text = 127019

-- what printing a tile of n cells asks: a size that is allowed, lists with an entry for each cell, lifted levels, and room for any text
pub record Printable (w h n : ℕ) (receivers levels drainage marks water text : List ℕ) : Type 0 where
  pub narrow : w ≤ 64
  pub low : h ≤ 64
  pub cells : n ≡ h * w
  pub receivers_hold : n ≤ length receivers
  pub levels_hold : n ≤ length levels
  pub drainage_holds : n ≤ length drainage
  pub marks_hold : n ≤ length marks
  pub water_holds : n ≤ length water
  pub levels-lifted : Lifted (take n levels)
  pub room : most_text ≤ length text

-- `new` was printed into the first n bytes of a lent list; every byte past them is as it was
pub record Printed (new old text : List ℕ) (n : ℕ) : Type 0 where
  pub bytes : text ≡ overwrite new old
  pub counted : n ≡ length new
  pub within : n ≤ length old
