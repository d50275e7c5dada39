-- The ground of an accepted record, written again, is the record.
-- Assumes nothing.
use mathlib.Core.Bool.{Bool, true, ◌&&◌}
use mathlib.Core.List.{append_assoc, List, ◌++◌}
use mathlib.Core.Path.{refl, sym, ◌∙◌, ◌≡◌}
use Prim.Native.Nat.{ℕ, ◌*◌, ◌+◌}
use native.Mathlib.Omega.{arith}
use lib.Dec.{eqb}
use lib.ListN.{drop, length, length-drop}
use lib.Seq.{take_all}
use borrow.Author.Tests.{eqb-true}
use Rattle.ground.specs.Accepted.{AcceptedRecord}
use Rattle.ground.specs.Record.{distances_right, ground_of_record, height_in, record_of, trailer, trailer_at, width_in}
use Rattle.heights.proofs.HeightSections.{height_section-heights_at}
use Rattle.heights.specs.Bits.{height_section}
use Rattle.lists.proofs.Stretch.{stretch-join}
use Rattle.lists.proofs.Tests.{and_left, and_right}
use Rattle.lists.specs.Lists.{Below, stretch}
use Rattle.sections.proofs.Numbers.{bytes_of_standing}
use Rattle.sections.proofs.Sections.{section_of-numbers_at}
use Rattle.sections.specs.LittleEndian.{bytes_of, number_at, section_of}
use Rattle.rules.specs.Ground.{cells_of}

-- the trailer's five numbers are those that were judged; w and h are the width and the height that it names
trailer_read : (s : List ℕ) (w h : ℕ) → Below 256 s → length s ≡ 7 * (h * w) + 16 → w ≡ width_in s → h ≡ height_in s
    → distances_right s (h * w) ≡ true → trailer w h ≡ drop (7 * (h * w)) s
unfolding trailer
trailer_read s w h bytes long ew eh right =
    let n = h * w in
    let t : trailer_at s ≡ 7 * n = omega arith in
    let d = rw t at right in
    let r1 = eqb (number_at 4 s (7 * n + 4)) (7 * n) in
    let r2 = eqb (number_at 4 s (7 * n + 8)) (3 * n) in
    let r3 = eqb (number_at 4 s (7 * n + 12)) (2 * n) in
    let d1 = eqb-true (number_at 4 s (7 * n + 4)) (7 * n) (and_left r1 (r2 && r3) d) in
    let d2 = eqb-true (number_at 4 s (7 * n + 8)) (3 * n) (and_left r2 r3 (and_right r1 (r2 && r3) d)) in
    let d3 = eqb-true (number_at 4 s (7 * n + 12)) (2 * n) (and_right r2 r3 (and_right r1 (r2 && r3) d)) in
    let p1 : bytes_of 2 w ≡ stretch (7 * n) 2 s = bytes_of_standing 2 s (7 * n) bytes (omega arith) (sym (ew ∙ rw t)) in
    let p2 : bytes_of 2 h ≡ stretch (7 * n + 2) 2 s = bytes_of_standing 2 s (7 * n + 2) bytes (omega arith) (sym (eh ∙ rw t)) in
    let p3 = bytes_of_standing 4 s (7 * n + 4) bytes (omega arith) d1 in
    let p4 = bytes_of_standing 4 s (7 * n + 8) bytes (omega arith) d2 in
    let p5 = bytes_of_standing 4 s (7 * n + 12) bytes (omega arith) d3 in
    let last : stretch (7 * n + 12) 4 s ≡ drop (7 * n + 12) s = take_all 4 (drop (7 * n + 12) s) (simp length-drop (omega arith)) in
    stretch-join s (7 * n) 2 (7 * n + 2) refl p1
    (stretch-join s (7 * n + 2) 2 (7 * n + 4) (omega arith) p2
    (stretch-join s (7 * n + 4) 4 (7 * n + 8) (omega arith) p3
    (stretch-join s (7 * n + 8) 4 (7 * n + 12) (omega arith) p4 (p5 ∙ last))))

pub record_read : (room : ℕ → Bool) (s : List ℕ) {w h : ℕ} → Below 256 s → AcceptedRecord room s w h → record_of (ground_of_record s) ≡ s
unfolding record_of ground_of_record
record_read room s bytes a =
    let g = ground_of_record s in
    let n = cells_of g in
    let long = a.long in
    regroup (height_section g.heights) g.marks (section_of 2 g.water) (trailer g.width g.height)
    ∙ stretch-join s 0 (4 * n) (4 * n) (omega arith) (height_section-heights_at s 0 n bytes (omega arith))
    (stretch-join s (4 * n) n (5 * n) (omega arith) refl
    (stretch-join s (5 * n) (2 * n) (7 * n) (omega arith) (section_of-numbers_at 2 s (5 * n) n bytes (omega arith))
    (trailer_read s g.width g.height bytes long refl refl a.distances)))
  where
    regroup : (p q r t : List ℕ) → ((p ++ q) ++ r) ++ t ≡ p ++ (q ++ (r ++ t))
    regroup p q r t = simp append_assoc
