-- A row of the window: three bits of the mask, pushed in one step. Of a mask's eight bits the row above has the lowest three, and the row
-- below the highest.
-- Assumes nothing.
use Rattle.std.proofs.Common.{◌≡◌, ℕ, ◌+◌, ◌*◌, ◌/◌, ◌%◌, ◌≤◌, List, ◌∷◌, ◌++◌, sym, ◌∙◌, append_assoc, append-nil, arith}
use native.Mathlib.Nat.{mod-mod}
use Rattle.grid.specs.Window.{around}
use Rattle.walk.specs.Climb.{in_row, kept, kept_of, one_of, ones, RowAsked}
use Rattle.grid.specs.declared.Neighbours.TheVariants.{Four}

-- the bits by halving are those by division
pub record Halved (m : ℕ) : Type 0 where
  pub twice : m / 2 / 2 ≡ m / 4
  pub thrice : m / 2 / 2 / 2 ≡ m / 8
  pub four_times : m / 2 / 2 / 2 / 2 ≡ m / 16
  pub five_times : m / 2 / 2 / 2 / 2 / 2 ≡ m / 32

pub halved : (m : ℕ) → Halved m
halved m = record { twice = omega arith; thrice = omega arith; four_times = omega arith; five_times = omega arith }

-- the lowest three bits of a number tell its remainder, and the remainder tells the bits
lowest : (m : ℕ) → m % 8 ≡ m % 2 + 2 * (m / 2 % 2) + 4 * (m / 2 / 2 % 2)
lowest m = omega arith

same_digits : (a b c x y z : ℕ) → a ≤ 1 → b ≤ 1 → c ≤ 1 → x ≤ 1 → y ≤ 1 → z ≤ 1 → a + 2 * b + 4 * c ≡ x + 2 * y + 4 * z
    → (a ≡ x) × (b ≡ y) × (c ≡ z)
same_digits a b c x y z ha hb hc hx hy hz e = (omega arith, omega arith, omega arith)

same_bits : (l m : ℕ) → l % 8 ≡ m % 8 → (l % 2 ≡ m % 2) × (l / 2 % 2 ≡ m / 2 % 2) × (l / 2 / 2 % 2 ≡ m / 2 / 2 % 2)
same_bits l m e =
    same_digits (l % 2) (l / 2 % 2) (l / 2 / 2 % 2) (m % 2) (m / 2 % 2) (m / 2 / 2 % 2) (omega arith) (omega arith) (omega arith) (omega arith)
    (omega arith) (omega arith) (sym (lowest l) ∙ e ∙ lowest m)

pub ones-row : (m : ℕ) → ones in_row m ≡ m % 2 + (m / 2 % 2 + m / 4 % 2)
unfolding ones
ones-row m = rw (halved m).twice (omega arith)

pub ones-around : (m : ℕ) → ones around m ≡ ones in_row (m % 8) + (m / 8 % 2 + (m / 16 % 2 + ones in_row (m / 32)))
unfolding ones
ones-around m =
    let (a, b, c) = same_bits (m % 8) m (mod-mod m 8) in
    rw (a, b, c, (halved m).five_times, (halved m).four_times, (halved m).thrice) (omega arith)

-- of four neighbours the one in the middle alone
pub row_middle : (left middle right mask : ℕ) → RowAsked Four mask → kept_of (one_of left middle right) in_row mask ≡ kept (mask / 2 % 2) middle
row_middle left middle right mask (low, high) = rw ((halved mask).twice, low, high) (append-nil (kept (mask / 2 % 2) middle))

-- three places more
pub kept_of-row : (f : ℕ → ℕ) (p q s : ℕ) (ps : List ℕ) (row mask : ℕ) (old : List ℕ) {a b c : ℕ} {x y : List ℕ}
    → y ≡ kept_of (one_of a b c) in_row row ++ x → row % 8 ≡ mask % 8 → a ≡ f p → b ≡ f q → c ≡ f s
    → x ≡ kept_of f ps (mask / 2 / 2 / 2) ++ old → y ≡ kept_of f (p ∷ q ∷ s ∷ ps) mask ++ old
kept_of-row f p q s ps row mask old h same left middle right rest =
    let (t, u, v) = same_bits row mask same in
    h ∙ simp (t, u, v, left, middle, right, rest, append_assoc)
