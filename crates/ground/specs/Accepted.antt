-- What an acceptance says of the lists or the record that were judged, with w and h as the width and the height given back.
-- Assumes nothing.
use Rattle.std.specs.Prelude.{Bool, true, List, ◌≡◌, ℕ, ◌*◌, ◌+◌, length}
use Rattle.ground.specs.Good.{Good}
use Rattle.ground.specs.Record.{distances_right, ground_of_record}
use Rattle.rules.specs.Ground.{cells_of, Ground}

-- accepted lists: their ground is good, and the outputs have room for it
pub record AcceptedLists (room : ℕ → Bool) (g : Ground) (w h : ℕ) : Type 0 where
  pub good : Good g
  pub roomy : room (cells_of g) ≡ true
  pub width_is : w ≡ g.width
  pub height_is : h ≡ g.height

-- an accepted record: 7N + 16 bytes with the right distances, its ground is good, and the outputs have room for it
pub record AcceptedRecord (room : ℕ → Bool) (s : List ℕ) (w h : ℕ) : Type 0 where
  pub good : Good (ground_of_record s)
  pub roomy : room (cells_of (ground_of_record s)) ≡ true
  pub long : length s ≡ 7 * cells_of (ground_of_record s) + 16
  pub distances : distances_right s (cells_of (ground_of_record s)) ≡ true
  pub width_is : w ≡ (ground_of_record s).width
  pub height_is : h ≡ (ground_of_record s).height
