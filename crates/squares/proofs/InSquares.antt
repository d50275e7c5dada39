-- Where a cell's pairs lie: how far on their other cell is, and of which two squares they are which pair.
-- Assumes nothing.
use mathlib.Core.Bool.{false≢true, true}
use mathlib.Core.Path.{ap, refl, sym, ◌≡◌}
use Prim.Native.Nat.{ℕ, ◌%◌, ◌*◌, ◌+◌, ◌-◌, ◌/◌, ◌<◌, ◌≤◌, ◌^◌}
use native.Mathlib.Nat.{mod-le, mod-lt}
use native.Mathlib.Omega.{arith}
use Rattle.grid.proofs.Rows.{left_column_lem}
use Rattle.grid.proofs.Window.{number_stands, stands_number}
use Rattle.grid.specs.Window.{Stands}
use Rattle.squares.proofs.KeptPairs.{each_four}
use Rattle.squares.proofs.SquareKeys.{pair, pair_at, place_at}
use Rattle.squares.specs.Squares.{has_bit, side_at}

-- the row of cell c goes on to the cell of its pair number i
abbrev pub InRow : (w i c : ℕ) → Type 0
InRow w i c = (0 < c % w + (5 + i) % 3) × (c % w + (5 + i) % 3 ≤ w)

-- so far on is that cell, and where the row goes on, it stands there
module _ (w : ℕ) (wide : 0 < w) where
  far_on : (i : ℕ) → i < 4 → (side_at w i).on + (w + 1) ≡ (5 + i) / 3 * w + (5 + i) % 3
  far_on = each_four (λ i. (side_at w i).on + (w + 1) ≡ (5 + i) / 3 * w + (5 + i) % 3) (omega arith) (omega arith) (omega arith) (omega arith)

  module _ {n i c : ℕ} (few : i < 4) where
    pub pair_stands_there : InRow w i c → c + (side_at w i).on < n → Stands w n c (5 + i) (c + (side_at w i).on)
    pair_stands_there r h = let f = far_on i few in number_stands (omega arith) (omega arith) r.0 r.1 (omega arith) h

    pub stands_there : {d : ℕ} → Stands w n c (5 + i) d → (d ≡ c + (side_at w i).on) × InRow w i c
    stands_there {d} S =
        let f = far_on i few in let e = stands_number S in let m = S.column in let b = mod-lt d wide in
        (omega arith, (omega arith, omega arith))

-- pair number i of a cell is a pair of the square that begins `back` places before the cell. Where the tile has no such square, what stands
-- for it leaves the pair out only if the row doesn't go on, or the other cell isn't there
pub record InSquare (w i back bit : ℕ) : Type 0 where
  pub number : ℕ
  pub small : number < 6
  pub bit_is : bit ≡ 2 ^ number
  pub place : (s : ℕ) → place_at w s number ≡ 5 + i
  pub is : (s c : ℕ) → s + back ≡ c → pair_at w s number ≡ pair c (c + (side_at w i).on)
  pub margin : (c : ℕ) → 3 ≡ number → InRow w i c → back ≤ c
  pub row_end : (s c : ℕ) → s + back ≡ c → has_bit 13 (2 ^ number) ≡ true → InRow w i c → s % w + 1 < w
  pub last_row : (n s c : ℕ) → s + back ≡ c → 3 ≡ number → c + (side_at w i).on < n → s + w < n

pair_same : {a b c d : ℕ} → a ≡ c → b ≡ d → pair a b ≡ pair c d
pair_same e f = λ i. pair (e i) (f i)

module _ (w : ℕ) (wide : 0 < w) where
  -- a row that goes on to the right doesn't end
  goes_on : (s c : ℕ) → s + 0 ≡ c → c % w + 2 ≤ w → s % w + 1 < w
  goes_on s c e h = let q : s % w ≡ c % w = ap (λ (x : ℕ). x % w) (let z : s ≡ c = omega arith in z) in omega arith

  left_lies : InSquare w 1 1 8
  left_lies =
      record {
        number = 3;
        small = omega arith;
        bit_is = refl;
        place = λ s. refl;
        is = λ s c e. pair_same e (omega arith);
        margin = λ c t r. let b = mod-le c w in omega (arith, r.0);
        row_end = λ s c e t r.
            let q : c % w ≡ (s + 1) % w = ap (λ (x : ℕ). x % w) (sym e) in
            let (a, b) = left_column_lem w (s + 1) wide (omega (arith, r.0)) in
            let z : (s + 1 - 1) % w ≡ s % w = ap (λ (x : ℕ). x % w) (let y : s + 1 - 1 ≡ s = omega arith in y) in
            omega arith;
        last_row = λ n s c e t h. omega arith;
      }

  right_lies : InSquare w 3 0 4
  right_lies =
      record {
        number = 2;
        small = omega arith;
        bit_is = refl;
        place = λ s. refl;
        is = λ s c e. pair_same (omega arith) (omega arith);
        margin = λ c t r. omega arith;
        row_end = λ s c e t r. goes_on s c e r.1;
        last_row = λ n s c e t h. absurd (omega (arith, t));
      }

  -- of each of its two squares
  pub in_first : (i : ℕ) → i < 4 → InSquare w i (side_at w i).first (side_at w i).here
  in_first =
      each_four (λ i. InSquare w i (side_at w i).first (side_at w i).here)
      (record {
        number = 0;
        small = omega arith;
        bit_is = refl;
        place = λ s. refl;
        is = λ s c e. pair_same (omega arith) (omega arith);
        margin = λ c t r. omega arith;
        row_end = λ s c e t r. goes_on s c e r.1;
        last_row = λ n s c e t h. absurd (omega (arith, t));
      })
      left_lies
      (record {
        number = 1;
        small = omega arith;
        bit_is = refl;
        place = λ s. refl;
        is = λ s c e. pair_same (omega arith) (omega arith);
        margin = λ c t r. omega arith;
        row_end = λ s c e t r. absurd (false≢true t);
        last_row = λ n s c e t h. absurd (omega (arith, t));
      })
      right_lies

  pub in_second : (i : ℕ) → i < 4 → InSquare w i (side_at w i).second (side_at w i).there
  in_second =
      each_four (λ i. InSquare w i (side_at w i).second (side_at w i).there)
      (record {
        number = 5;
        small = omega arith;
        bit_is = refl;
        place = λ s. refl;
        is = λ s c e. pair_same e (omega arith);
        margin = λ c t r. absurd (omega (arith, t));
        row_end = λ s c e t r. absurd (false≢true t);
        last_row = λ n s c e t h. absurd (omega (arith, t));
      })
      left_lies
      (record {
        number = 4;
        small = omega arith;
        bit_is = refl;
        place = λ s. refl;
        is = λ s c e. pair_same e (omega arith);
        margin = λ c t r. absurd (omega (arith, t));
        row_end = λ s c e t r. absurd (false≢true t);
        last_row = λ n s c e t h. absurd (omega (arith, t));
      })
      right_lies
