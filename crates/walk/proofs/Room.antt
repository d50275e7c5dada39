-- A visit pushes a row, two entries and a row. Before each of the four there is room on the stack, and in the end the top has moved by the bits
-- of the mask.
-- Assumes nothing.
use Rattle.std.proofs.Common.{◌≡◌, ℕ, ◌+◌, ◌/◌, ◌%◌, ◌<◌, ◌≤◌, arith}
use Rattle.grid.specs.Window.{around}
use Rattle.walk.proofs.InRow.{ones-around}
use Rattle.walk.specs.Climb.{in_row, ones}

module _ (m top size : ℕ) (bits : ones around m ≤ top) (here : top < size) where
  pub room_below : (ones in_row (m / 32) < top + 1) × (top + 1 ≤ size)
  room_below = let e = ones-around m in (omega arith, omega arith)

  module _ {t₁ size₁ : ℕ} (moved₁ : t₁ + ones in_row (m / 32) ≡ top + 1) (kept₁ : size₁ ≡ size) where
    pub room_right : (0 < t₁) × (t₁ ≤ size₁) × (m / 16 % 2 ≤ 1)
    room_right = let e = ones-around m in (omega arith, omega arith, omega arith)

    module _ {t₂ size₂ : ℕ} (moved₂ : t₂ + m / 16 % 2 ≡ t₁) (kept₂ : size₂ ≡ size₁) where
      pub room_left_lem : (0 < t₂) × (t₂ ≤ size₂) × (m / 8 % 2 ≤ 1)
      room_left_lem = let e = ones-around m in (omega arith, omega arith, omega arith)

      module _ {t₃ size₃ : ℕ} (moved₃ : t₃ + m / 8 % 2 ≡ t₂) (kept₃ : size₃ ≡ size₂) where
        pub room_above : (ones in_row (m % 8) < t₃) × (t₃ ≤ size₃)
        room_above = let e = ones-around m in (omega arith, omega arith)

        pub moved_all : (t₄ : ℕ) → t₄ + ones in_row (m % 8) ≡ t₃ → t₄ + ones around m ≡ top + 1
        moved_all t₄ moved₄ = let e = ones-around m in omega arith
