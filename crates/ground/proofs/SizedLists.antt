-- What the tests that look at no cell say where they hold.
-- Assumes nothing.
use mathlib.Core.Bool.{true, ◌&&◌}
use mathlib.Core.List.{List}
use mathlib.Core.Path.{◌≡◌}
use Prim.Native.Nat.{ℕ, ◌*◌, ◌≤◌}
use lib.Dec.{eqb, leb}
use lib.IntN.{ℤ}
use lib.ListN.{length}
use borrow.Author.Tests.{eq-eqb, eqb-true, le-leb, leb-true}
use Rattle.grid.proofs.Rows.{rows_fit}
use Rattle.ground.specs.Good.{Full}
use Rattle.ground.specs.Judge.{lists_full, size_allowed}
use Rattle.lists.proofs.Tests.{and_left, and_right}

-- an allowed size: at most 4,096 cells
pub record Sized (w h : ℕ) : Type 0 where
  pub wide : 1 ≤ w
  pub narrow : w ≤ 64
  pub tall : 1 ≤ h
  pub low : h ≤ 64
  pub few : h * w ≤ 4096

pub sized : (w h : ℕ) → size_allowed w h ≡ true → Sized w h
sized w h e =
    let e1 = and_right (leb 1 w) (leb w 64 && (leb 1 h && leb h 64)) e in
    let e2 = and_right (leb w 64) (leb 1 h && leb h 64) e1 in
    let narrow = leb-true w 64 (and_left (leb w 64) (leb 1 h && leb h 64) e1) in
    let low = leb-true h 64 (and_right (leb 1 h) (leb h 64) e2) in
    record {
      wide = leb-true 1 w (and_left (leb 1 w) (leb w 64 && (leb 1 h && leb h 64)) e);
      narrow = narrow;
      tall = leb-true 1 h (and_left (leb 1 h) (leb h 64) e2);
      low = low;
      few = rows_fit h w low narrow;
    }

pub size_allowed_lem : (w h : ℕ) → 1 ≤ w → w ≤ 64 → 1 ≤ h → h ≤ 64 → size_allowed w h ≡ true
size_allowed_lem w h a b c d = rw (le-leb 1 w a, le-leb w 64 b, le-leb 1 h c, le-leb h 64 d)

-- lists of n entries
module _ (heights : List ℤ) (marks water : List ℕ) (n : ℕ) where
  pub full : lists_full heights marks water n ≡ true → Full heights marks water n
  full e =
      let a = eqb (length heights) n in
      let b = eqb (length marks) n in
      let c = eqb (length water) n in
      let e1 = and_right a (b && c) e in
      record {
        heights_full = eqb-true (length heights) n (and_left a (b && c) e);
        marks_full = eqb-true (length marks) n (and_left b c e1);
        water_full = eqb-true (length water) n (and_right b c e1);
      }

  pub lists_full_fact : Full heights marks water n → lists_full heights marks water n ≡ true
  lists_full_fact f =
      let a = eq-eqb (length heights) n f.heights_full in
      let b = eq-eqb (length marks) n f.marks_full in
      let c = eq-eqb (length water) n f.water_full in
      rw (a, b, c)
