-- The record of a good ground says that ground.
-- Assumes nothing.
use mathlib.Core.Bool.{Bool, true}
use mathlib.Core.List.{[], append_assoc, ◌++◌}
use mathlib.Core.Path.{ap, refl, ◌∙◌, ◌≡◌}
use Prim.Native.Nat.{ℕ, ◌*◌, ◌+◌}
use native.Mathlib.Nat.{add-zero}
use native.Mathlib.Omega.{arith}
use borrow.Author.Tests.{eq-eqb}
use Rattle.ground.proofs.Acceptance.{accept_record, good_few, good_full}
use Rattle.ground.specs.Good.{Full, Good}
use Rattle.ground.specs.Judge.{judge_record}
use Rattle.ground.specs.Record.{distances_right, ground_of_record, height_in, record_of, trailer, trailer_at, width_in}
use Rattle.heights.proofs.HeightSections.{heights_at-height_section}
use Rattle.heights.specs.Bits.{heights_at, height_section}
use Rattle.lists.proofs.Stretch.{stretch-at}
use Rattle.lists.specs.Lists.{Below, stretch}
use Rattle.sections.proofs.Numbers.{number_at_skip}
use Rattle.sections.proofs.Sections.{numbers_at-section_of}
use Rattle.sections.specs.LittleEndian.{number_at, numbers_at, section_of}
use Rattle.records.proofs.Sections.{length-record_of, marks-start, trailer_start_lem, water-start}
use Rattle.rules.specs.Ground.{cells_of, Ground}
use Rattle.ground.specs.Judge.{Accepted}

module _ (g : Ground) (good : Good g) (small : Below 65536 g.water) where
  full : Full g.heights g.marks g.water (cells_of g)
  full = good_full g good

  -- the record with what stands before and after each section
  around-heights : record_of g ≡ height_section g.heights ++ (g.marks ++ (section_of 2 g.water ++ trailer g.width g.height))
  unfolding record_of
  around-heights = simp append_assoc

  around-water : record_of g ≡ (height_section g.heights ++ g.marks) ++ (section_of 2 g.water ++ trailer g.width g.height)
  unfolding record_of
  around-water = simp append_assoc

  around-trailer : record_of g ≡ ((height_section g.heights ++ g.marks) ++ section_of 2 g.water) ++ trailer g.width g.height
  unfolding record_of
  around-trailer = refl

  -- the three lists
  heights-written : heights_at (record_of g) 0 (cells_of g) ≡ g.heights
  heights-written =
      rw around-heights
      (heights_at-height_section [] g.heights (g.marks ++ (section_of 2 g.water ++ trailer g.width g.height)) 0 (cells_of g)
      refl good.heights_full good.heights_in_range)

  marks-written : stretch (4 * cells_of g) (cells_of g) (record_of g) ≡ g.marks
  marks-written =
      rw around-heights
      (stretch-at (height_section g.heights) g.marks (section_of 2 g.water ++ trailer g.width g.height)
      (4 * cells_of g) (cells_of g) (marks-start g full) good.marks_full)

  water-written : numbers_at 2 (record_of g) (5 * cells_of g) (cells_of g) ≡ g.water
  water-written =
      rw around-water
      (numbers_at-section_of 2 (height_section g.heights ++ g.marks) g.water (trailer g.width g.height)
      (5 * cells_of g) (cells_of g) (water-start g full) good.water_full small)

  -- the trailer
  trailer_at_lem : trailer_at (record_of g) ≡ 7 * cells_of g
  trailer_at_lem = rw (length-record_of g full) (omega arith)

  number_at_lem : (w k : ℕ) → number_at w (record_of g) (7 * cells_of g + k) ≡ number_at w (trailer g.width g.height) k
  number_at_lem w k =
      rw (around-trailer, ← trailer_start_lem g full)
      (number_at_skip w ((height_section g.heights ++ g.marks) ++ section_of 2 g.water) (trailer g.width g.height) k)

  width_written : width_in (record_of g) ≡ g.width
  unfolding trailer
  width_written =
      let w = good.narrow in
      rw (trailer_at_lem, ← add-zero (7 * cells_of g)) (number_at_lem 2 0 ∙ omega arith)

  height-written : height_in (record_of g) ≡ g.height
  unfolding trailer
  height-written =
      let h = good.low in
      rw trailer_at_lem (number_at_lem 2 2 ∙ omega arith)

  distances-written : distances_right (record_of g) (cells_of g) ≡ true
  unfolding trailer
  distances-written =
      let few = good_few g good in
      let a : number_at 4 (record_of g) (7 * cells_of g + 4) ≡ 7 * cells_of g = number_at_lem 4 4 ∙ omega arith in
      let b : number_at 4 (record_of g) (7 * cells_of g + 8) ≡ 3 * cells_of g = number_at_lem 4 8 ∙ omega arith in
      let c : number_at 4 (record_of g) (7 * cells_of g + 12) ≡ 2 * cells_of g = number_at_lem 4 12 ∙ omega arith in
      rw (trailer_at_lem, eq-eqb _ _ a, eq-eqb _ _ b, eq-eqb _ _ c)

  pub ground-written : ground_of_record (record_of g) ≡ g
  unfolding ground_of_record
  ground-written = rw (width_written, height-written, heights-written, marks-written, water-written)

  -- it is accepted wherever there is room
  pub written_accepted : (room : ℕ → Bool) → room (cells_of g) ≡ true → judge_record room (record_of g) ≡ Accepted g.width g.height
  written_accepted room r =
      let e = ground-written in
      let c : cells_of (ground_of_record (record_of g)) ≡ cells_of g = ap cells_of e in
      accept_record room (record_of g) (rw e good) (rw c (length-record_of g full)) (rw c distances-written) (rw c r)
      ∙ rw e
