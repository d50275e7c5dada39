-- `lake_text::write_rows` meets its contract: after each turn one line more is written.
-- Assumes nothing.
use mathlib.Core.Path.{refl, ◌∙◌, ◌≡◌}
use native.Mathlib.Omega.{arith}
use borrow.Author.Rules.{rules}
use Rattle.lake_text.proofs.Lines.{lines_next, lines-within}
use Rattle.text.proofs.Writing.{wrote_none, wrote_then}
use Rattle.lake_text.proofs.write_rows.Goals as goal

pub loop-i-init : goal.loop-i-init
loop-i-init c = let a = c.args in (search rules, refl, wrote_none a.text.now a.from (omega arith))

pub write_row-to-requires : goal.write_row-to-requires
write_row-to-requires c =
    let a = c.args in
    record {
      i_in_bounds = omega arith;
      fits = omega (arith, lines-within a.rows.now c.loop-i.i a.n (omega arith), c.loop-i.invariant.2.end);
    }

pub loop-i-preserved : goal.loop-i-preserved
loop-i-preserved c =
    let w = c.write_row-to in
    let a = c.args in
    (search rules, w.auto.text ∙ c.loop-i.invariant.1, wrote_then c.loop-i.invariant.2 w.ensures (lines_next a.rows.now c.loop-i.i))

pub returns : goal.returns
returns c =
    let a = c.args in
    let e : c.loop-i.i ≡ a.n = omega arith in
    rw (← e) c.loop-i.invariant.2
