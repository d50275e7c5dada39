-- The sections of a ground record, written one after the other, are the record; and how long it is.
-- Assumes nothing.
use mathlib.Core.List.{List, ◌++◌}
use mathlib.Core.Path.{refl, sym, ◌∙◌, ◌≡◌}
use Prim.Native.Nat.{ℕ, ◌*◌, ◌+◌}
use native.Mathlib.Omega.{arith}
use lib.ListN.{length, length-append}
use Rattle.ground.specs.Good.{Full}
use Rattle.ground.specs.Record.{record_of, trailer}
use Rattle.heights.proofs.HeightSections.{length-height_section}
use Rattle.heights.specs.Bits.{height_section}
use Rattle.lists.proofs.Overwrite.{overwrite-all, overwrite-next}
use Rattle.lists.specs.Lists.{overwrite, stored}
use Rattle.sections.proofs.Sections.{length-section_of}
use Rattle.sections.specs.LittleEndian.{bytes_of, section_of}
use Rattle.rules.specs.Ground.{cells_of, Ground}

pub length-trailer : (w h : ℕ) → length (trailer w h) ≡ 16
unfolding trailer
length-trailer w h = refl

-- the five numbers of the trailer
pub trailer_done : (w h : ℕ) (p0 : List ℕ) {p1 p2 p3 p4 p5 : List ℕ} → length p0 ≡ 16
    → p1 ≡ overwrite (bytes_of 2 w) p0 → p2 ≡ stored 2 (bytes_of 2 h) p1 → p3 ≡ stored 4 (bytes_of 4 (7 * (h * w))) p2
    → p4 ≡ stored 8 (bytes_of 4 (3 * (h * w))) p3 → p5 ≡ stored 12 (bytes_of 4 (2 * (h * w))) p4 → p5 ≡ trailer w h
unfolding trailer
trailer_done w h p0 {p1} {p2} {p3} {p4} {p5} l e1 e2 e3 e4 e5 =
    let n = h * w in
    let a = bytes_of 2 w in
    let b = bytes_of 2 h in
    let c = bytes_of 4 (7 * n) in
    let d = bytes_of 4 (3 * n) in
    let f2 = overwrite-next a b p0 2 refl e1 e2 in
    let f3 = overwrite-next (a ++ b) c p0 4 refl f2 e3 in
    let f4 = overwrite-next ((a ++ b) ++ c) d p0 8 refl f3 e4 in
    let f5 = overwrite-next (((a ++ b) ++ c) ++ d) (bytes_of 4 (2 * n)) p0 12 refl f4 e5 in
    f5 ∙ overwrite-all _ p0 (sym l)

module _ (g : Ground) (entries : Full g.heights g.marks g.water (cells_of g)) where
  -- where each section starts, and where the record ends
  pub marks-start : length (height_section g.heights) ≡ 4 * cells_of g
  marks-start = length-height_section g.heights ∙ rw entries.heights_full

  pub water-start : length (height_section g.heights ++ g.marks) ≡ 5 * cells_of g
  water-start = length-append (height_section g.heights) g.marks ∙ omega (arith, marks-start, entries.marks_full)

  water-length : length (section_of 2 g.water) ≡ 2 * cells_of g
  water-length = length-section_of 2 g.water ∙ rw entries.water_full

  pub trailer_start_lem : length ((height_section g.heights ++ g.marks) ++ section_of 2 g.water) ≡ 7 * cells_of g
  trailer_start_lem =
      length-append (height_section g.heights ++ g.marks) (section_of 2 g.water) ∙ omega (arith, water-start, water-length)

  pub length-record_of : length (record_of g) ≡ 7 * cells_of g + 16
  unfolding record_of
  length-record_of =
      length-append ((height_section g.heights ++ g.marks) ++ section_of 2 g.water) (trailer g.width g.height)
      ∙ omega (arith, trailer_start_lem, length-trailer g.width g.height)

  -- the four sections; n is the code's number of cells
  pub record_done : (s : List ℕ) {s1 s2 s3 s4 : List ℕ} (n : ℕ) → n ≡ cells_of g
      → s1 ≡ overwrite (height_section g.heights) s → s2 ≡ stored (4 * n) g.marks s1
      → s3 ≡ stored (5 * n) (section_of 2 g.water) s2 → s4 ≡ stored (7 * n) (trailer g.width g.height) s3
      → s4 ≡ overwrite (record_of g) s
  unfolding record_of
  record_done s {s1} {s2} {s3} {s4} n k e1 e2 e3 e4 =
      let a = height_section g.heights in
      let m = g.marks in
      let c = section_of 2 g.water in
      let t = trailer g.width g.height in
      let f2 = overwrite-next a m s (4 * n) (omega (arith, marks-start)) e1 e2 in
      let f3 = overwrite-next (a ++ m) c s (5 * n) (omega (arith, water-start)) f2 e3 in
      overwrite-next ((a ++ m) ++ c) t s (7 * n) (omega (arith, trailer_start_lem)) f3 e4
