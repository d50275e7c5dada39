-- The cells of a record: what stands in its bytes for one cell is what the ground of the record has there, and the greatest of its
-- heights says whether any of them is bad.
-- Assumes nothing.
use mathlib.Core.Bool.{not}
use mathlib.Core.List.{List}
use mathlib.Core.Path.{ap, sym, ◌∙◌, ◌≡◌}
use Prim.Native.Nat.{max, ℕ, ◌*◌, ◌+◌, ◌<◌, ◌≤◌}
use native.Mathlib.Nat.{zero-add}
use native.Mathlib.Omega.{arith}
use lib.Dec.{ltb}
use lib.IntN.{ℤ}
use lib.ListN.{length, length-map}
use Rattle.ground.specs.Judge.{bad_height}
use Rattle.ground.specs.Record.{bad_bits, lifts_in}
use Rattle.heights.proofs.Heights.{range-bits}
use Rattle.heights.proofs.HeightSections.{get_d_heights_at}
use Rattle.heights.specs.Bits.{heights_at, lifted_bits, signed_of}
use Rattle.lists.proofs.Find.{find_same}
use Rattle.lists.proofs.Greatest.{greatest_found, greatest-next, greatest-none}
use Rattle.lists.proofs.Map.{map_at}
use Rattle.lists.proofs.Tab.{tab-at, tab-length, tab-map}
use Rattle.lists.proofs.Tests.{not-leb}
use Rattle.lists.specs.Find.{find}
use Rattle.lists.specs.Greatest.{greatest}
use Rattle.lists.specs.Lists.{at, Below, tab}
use Rattle.sections.proofs.Numbers.{number_at-below}
use Rattle.sections.specs.LittleEndian.{number_at, numbers_at}
use Rattle.rules.specs.Ground.{height_in_range}

-- the code's test of a cell's bytes, and the search by it
bad_in_record : (s : List ℕ) (n k : ℕ) → k < n → bad_bits s k ≡ bad_height (heights_at s 0 n) k
bad_in_record s n k h =
    let e = get_d_heights_at s 0 n k h ∙ ap (λ (i : ℕ). signed_of (number_at 4 s i)) (zero-add (4 * k)) in
    ap (λ (z : ℤ). not (height_in_range z)) (sym e)

pub bad_in_record_found : (s : List ℕ) (n : ℕ) → find (bad_bits s) n ≡ find (bad_height (heights_at s 0 n)) n
bad_in_record_found s n = find_same (bad_bits s) (bad_height (heights_at s 0 n)) n (bad_in_record s n)

-- a turn of the pass over the lifted heights
pub greatest_lift_next : (s : List ℕ) (k : ℕ)
    → max (greatest (lifts_in s k)) (lifted_bits (number_at 4 s (4 * k))) ≡ greatest (lifts_in s (k + 1))
greatest_lift_next s k =
    let f : ℕ → ℕ = λ j. number_at 4 s (0 + 4 * j) in
    rw (tab-map lifted_bits f k, tab-map lifted_bits f (k + 1))
    (ap (λ (i : ℕ). max (greatest (tab k (λ j. lifted_bits (f j)))) (lifted_bits (number_at 4 s i))) (sym (zero-add (4 * k)))
    ∙ greatest-next (λ j. lifted_bits (f j)) k)

-- the greatest of them says whether the search for a bad height finds any
module _ (s : List ℕ) (n : ℕ) (bytes : Below 256 s) (long : 4 * n ≤ length s) where
  length_lifts : length (lifts_in s n) ≡ n
  length_lifts = rw length-map (tab-length (λ k. number_at 4 s (0 + 4 * k)) n)

  at_lifts : (k : ℕ) → k < n → at (lifts_in s n) k ≡ lifted_bits (number_at 4 s (4 * k))
  at_lifts k h =
      let f : ℕ → ℕ = λ j. number_at 4 s (0 + 4 * j) in
      map_at lifted_bits (numbers_at 4 s 0 n) k 0 0 (rw (tab-length f n) h)
      ∙ ap lifted_bits (tab-at f n k 0 h ∙ ap (number_at 4 s) (zero-add (4 * k)))

  bad_above : (k : ℕ) → k < n → bad_height (heights_at s 0 n) k ≡ ltb 16000000 (at (lifts_in s n) k)
  bad_above k h =
      let x = number_at 4 s (4 * k) in
      let small : x < 4294967296 = number_at-below 4 s (4 * k) bytes (omega arith) in
      sym (bad_in_record s n k h) ∙ ap not (sym (range-bits x small)) ∙ not-leb (lifted_bits x) 16000000
      ∙ ap (ltb 16000000) (sym (at_lifts k h))

  pub no_bad_height : greatest (lifts_in s n) ≤ 16000000 → find (bad_height (heights_at s 0 n)) n ≡ n
  no_bad_height = greatest-none (bad_height (heights_at s 0 n)) (lifts_in s n) 16000000 length_lifts bad_above

  pub some_bad_height : 16000000 < greatest (lifts_in s n) → find (bad_height (heights_at s 0 n)) n < n
  some_bad_height = greatest_found (bad_height (heights_at s 0 n)) (lifts_in s n) 16000000 length_lifts bad_above
