-- What the calls on the ground in a record ask of it.
-- Assumes nothing.
use Rattle.std.specs.Prelude.{List, ◌≡◌, ℕ, ◌*◌, ◌+◌, ◌≤◌, length}
use Rattle.ground.specs.Good.{Good}
use Rattle.ground.specs.Record.{ground_in}

-- the record s is that of w by h cells, and its ground is good; that the cells are few follows
pub record Readable (s : List ℕ) (w h : ℕ) : Type 0 where
  pub good : Good (ground_in s w h)
  pub long : length s ≡ 7 * (h * w) + 16
  pub few : h * w ≤ 4096
