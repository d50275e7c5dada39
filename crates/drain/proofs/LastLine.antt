-- The last line of an accepted record: its two numbers are one, as the outlets' drainage is all the water.
-- Assumes nothing.
use mathlib.Core.List.{List, ◌++◌}
use mathlib.Core.Path.{ap, ◌∙◌, ◌≡◌}
use Prim.Native.Nat.{ℕ, ◌*◌}
use Rattle.drain.specs.Drain.{drain_text}
use Rattle.ground.specs.Judge.{Accepted, judge_record}
use Rattle.ground.specs.Record.{ground_in}
use Rattle.ground.specs.Rooms.{any_room}
use Rattle.lists.specs.Lists.{sum}
use Rattle.network.proofs.Grounds.{good_drainable}
use Rattle.record_stages.specs.Readable.{Readable}
use Rattle.record_text.proofs.Input.{accepted_input, accepted_text, input_readable}
use Rattle.rules.specs.Ground.{Ground}
use Rattle.rules.specs.Network.{network}
use Rattle.text.proofs.Balance.{sums_agree}
use Rattle.text.specs.Text.{cell_lines, ground_text, size_line, sums_line, tile_text}

module _ (s : List ℕ) {w h : ℕ} (accepted : judge_record any_room s ≡ Accepted w h) where
  abbrev g : Ground
  g = ground_in s w h

  readable : Readable s w h
  readable = input_readable s (accepted_input s accepted)

  -- the text of an accepted record ends in "out x of x", with x the sum of the water
  pub last_line : drain_text s
      ≡ size_line w h
      ++ (cell_lines (network (ground_in s w h)).receivers (network (ground_in s w h)).levels (network (ground_in s w h)).drainage (h * w)
      ++ sums_line (sum (ground_in s w h).water) (sum (ground_in s w h).water))
  unfolding drain_text ground_text tile_text
  last_line =
      accepted_text ground_text s (accepted_input s accepted)
      ∙ ap (λ (x : ℕ). size_line w h
      ++ (cell_lines (network g).receivers (network g).levels (network g).drainage (h * w) ++ sums_line x (sum g.water)))
      (sums_agree g (good_drainable g readable.good) readable.good.water_full)
