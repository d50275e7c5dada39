-- `text::write_number` meets its contract: the digits, and then one byte.
-- Assumes nothing.
use mathlib.Core.List.{[], ◌∷◌}
use mathlib.Core.Path.{refl, ◌≡◌}
use native.Mathlib.Omega.{arith}
use lib.ListN.{length, length-append}
use Rattle.text.proofs.Writing.{wrote_byte, wrote_then}
use Rattle.text.specs.Text.{decimal}
use Rattle.text.proofs.write_number.Goals as goal

pub write_decimal-to-requires : goal.write_decimal-to-requires
write_decimal-to-requires c = let a = c.args in omega (arith, length-append (decimal a.n) (a.after ∷ []))

pub bounds-text-to : goal.bounds-text-to
bounds-text-to c =
    let a = c.args in
    omega (arith, c.write_decimal-to.ensures.end, c.write_decimal-to.auto.text, length-append (decimal a.n) (a.after ∷ []))

pub overflow_add-result : goal.overflow_add-result
overflow_add-result c =
    let a = c.args in
    omega (arith, c.write_decimal-to.ensures.end, c.write_decimal-to.auto.text, length-append (decimal a.n) (a.after ∷ []))

pub returns : goal.returns
returns c =
    let w = c.write_decimal-to in
    let a = c.args in
    let l = length-append (decimal a.n) (a.after ∷ []) in
    let k : length w.new.text ≡ length a.text.now = w.auto.text in
    let h = w.ensures.end in
    wrote_then w.ensures (wrote_byte w.new.text w.result a.after (omega arith)) refl
