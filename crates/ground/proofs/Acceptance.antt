-- What is accepted: exactly the good grounds, and exactly the records of the right length and distances whose ground is good.
-- Accepted records have 23 to 28,688 bytes.
-- Assumes nothing.
use mathlib.Core.Bool.{Bool, false, true}
use mathlib.Core.List.{List}
use mathlib.Core.Path.{ap, refl, sym, ◌≡◌}
use Prim.Native.Nat.{ℕ, ◌*◌, ◌+◌, ◌<◌, ◌≤◌}
use native.Mathlib.Omega.{arith}
use lib.Dec.{eqb, leb, ltb}
use lib.IntN.{pos}
use lib.ListN.{get_or, length}
use borrow.Author.Tests.{eq-eqb, eqb-true, le-leb, le-ltb, leb-true, lt-ltb, ltb-false, ltb-true, not-false}
use Rattle.grid.proofs.Rows.{rows_fit}
use Rattle.ground.proofs.SizedLists.{full, lists_full_fact, size_allowed_lem, sized}
use Rattle.ground.specs.Accepted.{AcceptedLists, AcceptedRecord}
use Rattle.ground.specs.Good.{Full, Good}
use Rattle.ground.specs.Judge.{bad_height, bad_mark, judge, judge_cells, judge_lists, judge_marks, judge_outlet, judge_record}
use Rattle.ground.specs.Judge.{judge_sized, lists_full, must, size_allowed}
use Rattle.ground.specs.Record.{distances_right, ground_in, ground_of_record, height_in, width_in}
use Rattle.heights.proofs.HeightSections.{length-heights_at}
use Rattle.kinds.specs.Kinds.{as_cell}
use Rattle.lists.proofs.Find.{find-below, find_found, find-left, find_none}
use Rattle.lists.proofs.Stretch.{stretch-length}
use Rattle.lists.proofs.Tab.{tab-length}
use Rattle.lists.proofs.Tests.{not_is}
use Rattle.lists.specs.Find.{find, NoneBelow}
use Rattle.lists.specs.Lists.{at}
use Rattle.sections.specs.LittleEndian.{number_at}
use Rattle.rules.specs.Ground.{cells_of, Ground, height_in_range, is_outlet}
use Rattle.ground.specs.declared.Refusal.{Refusal}
use Rattle.ground.specs.declared.Refusal.TheVariants.{BadDistance, BadHeight, BadLength, BadMark, BadSize, NoOutlet, NoRoom}
use Rattle.ground.specs.Judge.{Accepted, Judged}
use Rattle.std.specs.Prelude.{Err, Ok}

-- a test on the way to an acceptance held
pub must_held : (t : Bool) (why : Refusal) (next : Judged) {w h : ℕ} → must t why next ≡ Accepted w h
    → (t ≡ true) × (next ≡ Accepted w h)
must_held true why next e = (refl, e)
must_held false why next e = absurd (let z : ◌≡◌ {A = ℕ} 0 1 = cc in omega arith)

-- the width and the height that an acceptance gives back
abbrev width_told : Judged → ℕ
width_told (Ok size) = size.width
width_told (Err why) = 0

abbrev height_told : Judged → ℕ
height_told (Ok size) = size.height
height_told (Err why) = 0

-- every test of the table held
record Held (long right room : Bool) (g : Ground) : Type 0 where
  pub size : size_allowed g.width g.height ≡ true
  pub length_held : long ≡ true
  pub distances_held : right ≡ true
  pub room_held : room ≡ true
  pub heights_held : NoneBelow (bad_height g.heights) (cells_of g)
  pub marks_held : NoneBelow (bad_mark g.marks) (cells_of g)
  pub outlet_held : find (is_outlet g.marks) (cells_of g) < cells_of g

module _ (long right room : Bool) (g : Ground) where
  held : {a b : ℕ} → judge long right room g ≡ Accepted a b → Held long right room g × (a ≡ g.width) × (b ≡ g.height)
  unfolding judge judge_cells judge_marks judge_outlet
  held {a} {b} e =
      let n = cells_of g in
      let h = find (bad_height g.heights) n in
      let m = find (bad_mark g.marks) n in
      let o = find (is_outlet g.marks) n in
      let rest = must right BadDistance (must room NoRoom (judge_cells g)) in
      let e1 = must_held (size_allowed g.width g.height) BadSize (must long BadLength rest) e in
      let e2 = must_held long BadLength rest e1.1 in
      let e3 = must_held right BadDistance (must room NoRoom (judge_cells g)) e2.1 in
      let e4 = must_held room NoRoom (judge_cells g) e3.1 in
      let e5 = must_held (leb n h) (BadHeight (as_cell h)) (judge_marks g) e4.1 in
      let e6 = must_held (leb n m) (BadMark (as_cell m)) (judge_outlet g) e5.1 in
      let e7 = must_held (ltb o n) NoOutlet (Accepted g.width g.height) e6.1 in
      let last : Accepted g.width g.height ≡ Accepted a b = e7.1 in (
        record {
          size = e1.0;
          length_held = e2.0;
          distances_held = e3.0;
          room_held = e4.0;
          heights_held = find-left (bad_height g.heights) n (leb-true n h e5.0);
          marks_held = find-left (bad_mark g.marks) n (leb-true n m e6.0);
          outlet_held = ltb-true o n e7.0;
        },
        sym (ap width_told last),
        sym (ap height_told last),
      )

  accepted : Held long right room g → judge long right room g ≡ Accepted g.width g.height
  unfolding judge judge_cells judge_marks judge_outlet
  accepted t =
      let n = cells_of g in
      let h = find_none (bad_height g.heights) n t.heights_held in
      let m = find_none (bad_mark g.marks) n t.marks_held in
      let o = lt-ltb (find (is_outlet g.marks) n) n t.outlet_held in
      rw (t.size, t.length_held, t.distances_held, t.room_held, h, m, le-leb n n (omega arith), o)

-- good grounds and the tests, both ways
held_good : {long right room : Bool} (g : Ground) → Held long right room g → Full g.heights g.marks g.water (cells_of g)
    → Good g
held_good g t f =
    let z = sized g.width g.height t.size in
    let o = find (is_outlet g.marks) (cells_of g) in
    record {
      wide = z.wide;
      narrow = z.narrow;
      tall = z.tall;
      low = z.low;
      heights_full = f.heights_full;
      marks_full = f.marks_full;
      water_full = f.water_full;
      heights_in_range = λ k l. not-false (height_in_range (get_or g.heights k (pos 0))) (t.heights_held k l);
      marks_allowed = λ k l. ltb-false 1 (at g.marks k) (t.marks_held k l);
      outlet = o;
      outlet_below = t.outlet_held;
      outlet_marked =
          eqb-true (at g.marks o) 1 (find_found (is_outlet g.marks) (cells_of g) t.outlet_held);
    }

good_held : (long right room : Bool) (g : Ground) → Good g → long ≡ true → right ≡ true → room ≡ true → Held long right room g
good_held long right room g t a b c =
    let o = eq-eqb (at g.marks t.outlet) 1 t.outlet_marked in
    record {
      size = size_allowed_lem g.width g.height t.wide t.narrow t.tall t.low;
      length_held = a;
      distances_held = b;
      room_held = c;
      heights_held = λ k l. not_is (height_in_range (get_or g.heights k (pos 0))) (t.heights_in_range k l);
      marks_held = λ k l. le-ltb 1 (at g.marks k) (t.marks_allowed k l);
      outlet_held =
          find-below (is_outlet g.marks) (cells_of g) t.outlet t.outlet_below o;
    }

-- N is at most 4,096
pub good_few : (g : Ground) → Good g → cells_of g ≤ 4096
good_few g t = rows_fit g.height g.width t.low t.narrow

pub good_full : (g : Ground) → Good g → Full g.heights g.marks g.water (cells_of g)
good_full g t = record { heights_full = t.heights_full; marks_full = t.marks_full; water_full = t.water_full }

-- accepted lists, both ways
pub lists_accepted : (room : ℕ → Bool) (g : Ground) {w h : ℕ} → judge_lists room g ≡ Accepted w h → AcceptedLists room g w h
unfolding judge_lists
lists_accepted room g e =
    let t = held (lists_full g.heights g.marks g.water (cells_of g)) true (room (cells_of g)) g e in
    record {
      good = held_good g t.0 (full g.heights g.marks g.water (cells_of g) t.0.length_held);
      roomy = t.0.room_held;
      width_is = t.1;
      height_is = t.2;
    }

pub accept_lists : (room : ℕ → Bool) (g : Ground) → Good g → room (cells_of g) ≡ true
    → judge_lists room g ≡ Accepted g.width g.height
unfolding judge_lists
accept_lists room g t r =
    let long = lists_full g.heights g.marks g.water (cells_of g) in
    let f = lists_full_fact g.heights g.marks g.water (cells_of g) (good_full g t) in
    accepted long true (room (cells_of g)) g (good_held long true (room (cells_of g)) g t f refl r)

-- the lists of a record of w by h cells have N entries
pub record_full : (s : List ℕ) (w h : ℕ) → length s ≡ 7 * (h * w) + 16
    → Full (ground_in s w h).heights (ground_in s w h).marks (ground_in s w h).water (h * w)
record_full s w h e =
    record {
      heights_full = length-heights_at s 0 (h * w);
      marks_full = stretch-length (4 * (h * w)) (h * w) s (omega arith);
      water_full = tab-length (λ k. number_at 2 s (5 * (h * w) + 2 * k)) (h * w);
    }

-- accepted records, both ways
pub record_accepted : (room : ℕ → Bool) (s : List ℕ) {w h : ℕ} → judge_record room s ≡ Accepted w h → AcceptedRecord room s w h
unfolding judge_record ground_of_record
record_accepted room s e =
    let n = height_in s * width_in s in
    let e1 = must_held (leb 16 (length s)) BadLength (judge_sized room s (width_in s) (height_in s)) e in
    let t = held (eqb (length s) (7 * n + 16)) (distances_right s n) (room n) (ground_of_record s) e1.1 in
    let l = eqb-true (length s) (7 * n + 16) t.0.length_held in
    record {
      good = held_good (ground_of_record s) t.0 (record_full s (width_in s) (height_in s) l);
      roomy = t.0.room_held;
      long = l;
      distances = t.0.distances_held;
      width_is = t.1;
      height_is = t.2;
    }

pub accept_record : (room : ℕ → Bool) (s : List ℕ) → Good (ground_of_record s) → length s ≡ 7 * cells_of (ground_of_record s) + 16
    → distances_right s (cells_of (ground_of_record s)) ≡ true → room (cells_of (ground_of_record s)) ≡ true
    → judge_record room s ≡ Accepted (ground_of_record s).width (ground_of_record s).height
unfolding judge_record ground_of_record
accept_record room s t l d r =
    let n = height_in s * width_in s in
    let e = eq-eqb (length s) (7 * n + 16) l in
    rw (le-leb 16 (length s) (omega arith))
    (accepted (eqb (length s) (7 * n + 16)) (distances_right s n) (room n) (ground_of_record s)
    (good_held (eqb (length s) (7 * n + 16)) (distances_right s n) (room n) (ground_of_record s) t e d r))

-- an accepted record has 1 to 4,096 cells, so 23 to 28,688 bytes
pub accepted_length : {room : ℕ → Bool} (s : List ℕ) {w h : ℕ} → AcceptedRecord room s w h → (23 ≤ length s) × (length s ≤ 28688)
accepted_length s a =
    let l = a.long in
    let some = a.good.outlet_below in
    let few = good_few (ground_of_record s) a.good in
    (omega arith, omega arith)
