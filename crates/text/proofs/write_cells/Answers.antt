-- `text::write_cells` meets its contract: after each turn one line more is written.
-- Assumes nothing.
use mathlib.Core.List.{map}
use mathlib.Core.Path.{ap, refl, ◌∙◌, ◌≡◌}
use Prim.Native.Nat.{◌+◌}
use native.Mathlib.Omega.{arith}
use lib.ListN.{length, length-append}
use borrow.Author.Rules.{rules}
use Rattle.rules.specs.Ground.{dropped}
use Rattle.text.proofs.Lines.{cell_lines-lifted, cell_lines-within}
use Rattle.text.proofs.Writing.{wrote_none, wrote_then}
use Rattle.text.specs.Text.{cell_lines}
use Rattle.text.proofs.write_cells.Goals as goal

pub loop-c-init : goal.loop-c-init
unfolding cell_lines
loop-c-init c = let a = c.args in (search rules, refl, wrote_none a.text.now a.from (omega arith))

pub write_cell-to-requires : goal.write_cell-to-requires
write_cell-to-requires c =
    let a = c.args in
    let n = c.loop-c.c in
    let e = cell_lines-lifted a.receivers.now a.levels.now a.drainage.now n (omega arith) in
    let k = cell_lines-within a.receivers.now (map dropped a.levels.now) a.drainage.now (n + 1) a.n (omega arith) in
    omega (arith, simp length-append at (ap length e), c.loop-c.invariant.2.end)

pub loop-c-preserved : goal.loop-c-preserved
loop-c-preserved c =
    let w = c.write_cell-to in
    let a = c.args in (
      search rules,
      w.auto.text ∙ c.loop-c.invariant.1,
      wrote_then c.loop-c.invariant.2 w.ensures
          (cell_lines-lifted a.receivers.now a.levels.now a.drainage.now c.loop-c.c (omega arith)),
    )

pub returns : goal.returns
returns c =
    let a = c.args in
    let e : c.loop-c.c ≡ a.n = omega arith in
    rw (← e) c.loop-c.invariant.2
