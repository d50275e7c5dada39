-- `lake_bytes::write_lakes` meets its contract: after i turns the bytes of the first i lakes stand at the start.
-- Assumes nothing.
use mathlib.Core.Path.{refl, ◌∙◌, ◌≡◌}
use native.Mathlib.Omega.{arith}
use borrow.Author.Rules.{rules}
use Rattle.lake_bytes.proofs.Laws.{lakes-next}
use Rattle.lake_bytes.specs.LakeBytes.{lakes_bytes}
use Rattle.lake_rows.proofs.Rows.{level_read}
use Rattle.lake_bytes.proofs.write_lakes.Goals as goal

pub loop-i-init : goal.loop-i-init
unfolding lakes_bytes
loop-i-init c = (search rules, refl, refl)

pub write_lake-requires : goal.write_lake-requires
write_lake-requires c =
    (omega arith, omega arith, level_read c.args.rows.now c.args.n c.requires.2 c.loop-i.i (omega arith))

pub loop-i-preserved : goal.loop-i-preserved
loop-i-preserved c =
    let w = c.write_lake in
    let a = c.args in (
      search rules,
      w.auto.out ∙ c.loop-i.invariant.1,
      lakes-next a.rows.now c.loop-i.i a.out.now c.loop-i.invariant.2 w.ensures,
    )

pub returns : goal.returns
returns c =
    let e : c.loop-i.i ≡ c.args.n = omega arith in
    c.loop-i.invariant.2 ∙ rw e
