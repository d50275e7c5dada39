-- Document 01, "Ground": the water of an accepted tile is at most 268,431,360 in all, from lists and from a record alike.
-- Assumes nothing.
use mathlib.Core.Bool.{Bool}
use mathlib.Core.List.{List}
use mathlib.Core.Path.{◌≡◌}
use Prim.Native.Nat.{ℕ, ◌*◌, ◌+◌, ◌<◌, ◌≤◌}
use native.Mathlib.Omega.{arith}
use lib.ListN.{length}
use Rattle.ground.proofs.Acceptance.{good_few}
use Rattle.ground.specs.Accepted.{AcceptedRecord}
use Rattle.ground.specs.Good.{Good}
use Rattle.ground.specs.Record.{ground_in, ground_of_record}
use Rattle.lists.proofs.Sum.{sum-most-at}
use Rattle.lists.proofs.Tab.{tab-below}
use Rattle.lists.specs.Lists.{at, Below, sum}
use Rattle.sections.proofs.Numbers.{number_at-below}
use Rattle.sections.specs.LittleEndian.{number_at}
use Rattle.rules.specs.Ground.{cells_of, Ground}

-- each cell has at most 65,535, as the entries of a list of 16-bit numbers do
pub good_water : (g : Ground) → Good g → Below 65536 g.water → sum g.water ≤ 268431360
good_water g t b =
    let s : sum g.water ≤ 65535 * length g.water = sum-most-at 65535 g.water (λ k h. let l : at g.water k < 65536 = b k h in omega arith) in
    let n : length g.water ≡ cells_of g = t.water_full in
    let f : cells_of g ≤ 4096 = good_few g t in
    omega arith

-- and as the water of a record of bytes does
water-below : (s : List ℕ) (w h : ℕ) → Below 256 s → length s ≡ 7 * (h * w) + 16 → Below 65536 (ground_in s w h).water
water-below s w h bytes e =
    tab-below (λ k. number_at 2 s (5 * (h * w) + 2 * k)) (h * w) 65536 (λ k l. number_at-below 2 s (5 * (h * w) + 2 * k) bytes (omega arith))

pub accepted_water-below : {room : ℕ → Bool} (s : List ℕ) {w h : ℕ} → Below 256 s → AcceptedRecord room s w h
    → Below 65536 (ground_of_record s).water
unfolding ground_of_record
accepted_water-below s b a = water-below s _ _ b a.long

pub record_water : {room : ℕ → Bool} (s : List ℕ) {w h : ℕ} → Below 256 s → AcceptedRecord room s w h → sum (ground_of_record s).water ≤ 268431360
record_water s b a = good_water (ground_of_record s) a.good (accepted_water-below s b a)
