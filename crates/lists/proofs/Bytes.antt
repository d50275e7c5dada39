-- What a test is as a number: 1 where it holds.
-- Assumes nothing.
use mathlib.Core.Bool.{Bool, cond, false, true}
use mathlib.Core.Path.{refl, ◌≡◌}
use Prim.Native.Nat.{◌≤◌}
use mir.Val.{bool_byte}
use Rattle.lists.proofs.Tests.{cond_small}

pub byte_of : (t : Bool) → bool_byte t ≡ cond t 1 0
byte_of true = refl
byte_of false = refl

pub byte_small : (t : Bool) → bool_byte t ≤ 1
byte_small t = rw (byte_of t) (cond_small t)
