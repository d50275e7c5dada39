-- `lake_text::write_lakes` meets its contract: the first line and the lines of the lakes are written one after the other, and there is
-- room for both, as each lake's line has at most 31 bytes.
-- Assumes nothing.
use mathlib.Core.List.{◌++◌}
use mathlib.Core.Path.{ap, sym}
use Prim.Native.Nat.{ℕ}
use native.Mathlib.Omega.{arith}
use Rattle.lake_rows.specs.Reading.{read_lake, read_lakes}
use Rattle.lake_text.proofs.Lines.{lakes_line_fits, lines, lines_fit}
use Rattle.lake_text.specs.LakeText.{lakes_line, lakes_text}
use Rattle.lists.proofs.Tab.{tab-length}
use Rattle.text.proofs.Writing.{printed, wrote_then}
use Rattle.lake_text.proofs.write_lakes.Goals as goal

pub write_count-from-requires : goal.write_count-from-requires
write_count-from-requires c =
    (c.requires.n_bound.0, omega (arith, lakes_line_fits c.args.n c.requires.n_bound.0))

pub write_rows-requires : goal.write_rows-requires
write_rows-requires c =
    let a = c.args in
    let few = c.requires.n_bound.0 in
    let l = lakes_line_fits a.n few in
    let m = lines_fit (read_lakes a.rows.now a.n) c.requires.n_bound.2 in
    let t = tab-length (read_lake a.rows.now) a.n in
    record {
      n_bound = (few, c.requires.n_bound.1);
      fits = omega (arith, c.requires.most_lakes_text_in_bounds, c.write_count-from.ensures.end, c.write_count-from.auto.text);
    }

pub returns : goal.returns
unfolding lakes_text
returns c =
    let a = c.args in
    let t = tab-length (read_lake a.rows.now) a.n in
    printed
    (wrote_then c.write_count-from.ensures c.write_rows.ensures
    (ap (λ (n : ℕ). lakes_line n ++ lines a.rows.now a.n) (sym t)))
