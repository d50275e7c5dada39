-- `record_stages::lift_record` meets its contract: after k turns the first k entries are the lifted heights.
-- Assumes nothing.
use mathlib.Core.Path.{ap, refl, sym, ◌∙◌, ◌≡◌}
use Prim.Native.Nat.{◌*◌, ◌<◌}
use native.Mathlib.Omega.{arith}
use lib.ListN.{length-set}
use borrow.Author.Rules.{rules}
use Rattle.heights.specs.Bits.{lifted_bits}
use Rattle.lists.proofs.Filled.{filled_next, filled_none}
use Rattle.sections.specs.LittleEndian.{number_at}
use Rattle.record_stages.proofs.Reading.{lifted_bits_lem}
use Rattle.record_stages.specs.Lifted.{lifted_at}
use Rattle.record_stages.proofs.lift_record.Goals as goal

pub loop-k-init : goal.loop-k-init
loop-k-init c = (search rules, refl, sym (filled_none _ _))

pub loop-k-preserved : goal.loop-k-preserved
loop-k-preserved c =
    let a = c.args in
    let b = c.read.ensures in
    let small : c.read.result < 4294967296 = search rules in
    let e : c.lift_bits.result ≡ lifted_at a.bytes.now c.loop-k.k =
    c.lift_bits.ensures ∙ ap lifted_bits b
    ∙ lifted_bits_lem (number_at 4 a.bytes.now (4 * c.loop-k.k)) (omega arith) (c.requires.2 c.loop-k.k (omega arith)) in (
      search rules,
      simp length-set c.loop-k.invariant.1,
      rw (e, c.loop-k.invariant.2) (filled_next (lifted_at a.bytes.now) c.loop-k.k a.out.now (omega arith)),
    )

pub returns : goal.returns
returns c =
    let e : c.loop-k.k ≡ c.args.n = omega arith in
    c.loop-k.invariant.2 ∙ rw e
