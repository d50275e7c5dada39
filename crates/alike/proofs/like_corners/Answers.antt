-- `alike::like_corners` meets its contract. The first place's bit is 1, which nothing has to be divided by.
-- Assumes nothing.
use mathlib.Core.Bool.{Bool, cond, false, true}
use mathlib.Core.Path.{◌≡◌}
use Prim.Native.Nat.{ℕ, ◌%◌, ◌*◌, ◌/◌}
use native.Mathlib.Omega.{arith}
use Rattle.alike.specs.Narrowed.{like_at}
use Rattle.alike.proofs.like_corners.Goals as goal

first_bit_lem : (t : Bool) (mask : ℕ) {r : ℕ} → r ≡ cond t (mask % 2) 0 → r ≡ cond t (mask / 1 % 2 * 1) 0
first_bit_lem true mask e = omega arith
first_bit_lem false mask e = e

pub returns : goal.returns
returns c =
    let a = c.args in
    let first = first_bit_lem (like_at a.w a.labels.now a.c 0) a.mask c.like_bit.ensures.0 in
    (omega arith, omega arith)
