-- `alike::store_row` meets its contract: before column x is stored the columns before it are.
-- Assumes nothing.
use mathlib.Core.Path.{ap, ◌≡◌}
use Prim.Native.Nat.{ℕ, ◌+◌, ◌-◌}
use native.Mathlib.Omega.{arith}
use Rattle.lists.proofs.Puts.{puts_next, puts_none, puts_to}
use Rattle.alike.proofs.store_row.Goals as goal

pub loop-x-init : goal.loop-x-init
loop-x-init c = let a = c.args in puts_none _ a.b (a.b + 0) a.out.now (omega arith)

pub loop-x-preserved : goal.loop-x-preserved
loop-x-preserved c =
    let a = c.args in
    let x = c.loop-x.x in
    let e : a.b + x - a.b ≡ x = omega arith in
    puts_to _ (let q : a.b + x + 1 ≡ a.b + (x + 1) = omega arith in q)
    (puts_next _ _ c.loop-x.invariant (omega arith) (omega arith) (rw (c.bits_if.ensures.0, c.bits_if-in-loop-x.ensures.0, e)))

pub returns : goal.returns
returns c =
    let a = c.args in
    let e : c.loop-x.x ≡ a.w = omega arith in
    puts_to _ (ap (λ (x : ℕ). a.b + x) e) c.loop-x.invariant
