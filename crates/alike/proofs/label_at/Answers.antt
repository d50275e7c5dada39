-- `alike::label_at` meets its contract: the three rows of a window, and one entry beside it, stand in the list with its margin.
-- Assumes nothing.
use Prim.Native.Nat.{◌*◌, ◌/◌, ◌≤◌}
use native.Mathlib.Nat.{mul-le-mul_right}
use native.Mathlib.Omega.{arith}
use Rattle.alike.proofs.label_at.Goals as goal
use Rattle.alike.proofs.label_at.Goals.{Start}

-- at most two rows down
rows-down : (st : Start) → st.args.p / 3 * st.args.w ≤ 2 * st.args.w
rows-down st = mul-le-mul_right st.args.w (omega arith)

pub overflow_mul-result : goal.overflow_mul-result
overflow_mul-result c = omega (arith, rows-down (goal.at.overflow_mul-result c).Start, c.requires.0)

pub overflow_add-result-2 : goal.overflow_add-result-2
overflow_add-result-2 c = omega (arith, rows-down (goal.at.overflow_add-result-2 c).Start, c.requires.0)

pub overflow_add-result-3 : goal.overflow_add-result-3
overflow_add-result-3 c = omega (arith, rows-down (goal.at.overflow_add-result-3 c).Start, c.requires.0)

pub offset_bounds-labels-c : goal.offset_bounds-labels-c
offset_bounds-labels-c c = omega (arith, rows-down (goal.at.offset_bounds-labels-c c).Start, c.requires.0)

pub bounds-labels-c : goal.bounds-labels-c
bounds-labels-c c = omega (arith, rows-down (goal.at.bounds-labels-c c).Start, c.requires.0)
