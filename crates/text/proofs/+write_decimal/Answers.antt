-- `text::write_decimal` meets its contract: the digits of a number's tenth, and then its last digit. The number falls at each call.
-- Assumes nothing.
use mathlib.Core.Path.{sym, ◌≡◌}
use Prim.Native.Nat.{◌%◌, ◌+◌}
use native.Mathlib.Omega.{arith}
use lib.ListN.{length}
use Rattle.text.proofs.Digits.{decimal_more, decimal_small, length_more, length_small}
use Rattle.text.proofs.Writing.{wrote_byte, wrote_then}
use Rattle.text.proofs.+write_decimal.Goals as goal

pub bounds-text-from : goal.bounds-text-from
bounds-text-from t c = omega (arith, length_small c.args.n c.if-n-lt10.true)

pub returns-then-n-lt10 : goal.returns-then-n-lt10
returns-then-n-lt10 t c =
    let a = c.args in
    let l = length_small a.n c.if-n-lt10.true in
    rw (decimal_small a.n c.if-n-lt10.true) (wrote_byte a.text.now a.from (48 + a.n) (omega arith))

pub write_decimal-to-requires : goal.write_decimal-to-requires
write_decimal-to-requires t c =
    let a = c.args in
    let l = length_more a.n c.if-n-lt10.false in
    let e : c.args.n ≡ t = c.decreases in
    (omega arith, omega arith)

pub bounds-text-to : goal.bounds-text-to
bounds-text-to t c =
    let w = c.write_decimal-to in
    omega (arith, w.ensures.end, w.auto.text, length_more c.args.n c.if-n-lt10.false)

pub returns : goal.returns
returns t c =
    let w = c.write_decimal-to in
    let a = c.args in
    let l = length_more a.n c.if-n-lt10.false in
    let k : length w.new.text ≡ length a.text.now = w.auto.text in
    let h = w.ensures.end in
    wrote_then w.ensures (wrote_byte w.new.text w.result (48 + a.n % 10) (omega arith)) (sym (decimal_more a.n c.if-n-lt10.false))
