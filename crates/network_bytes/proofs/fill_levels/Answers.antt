-- `network_bytes::fill_levels` meets its contract: after i turns the section of the first i levels is stored.
-- Assumes nothing.
use mathlib.Core.Path.{◌≡◌}
use Prim.Native.Nat.{◌*◌, ◌+◌}
use native.Mathlib.Omega.{arith}
use Rattle.heights.specs.Bits.{dropped_bits}
use Rattle.sections.proofs.Numbers.{length-bytes_of}
use Rattle.sections.proofs.Sections.{stored_entry, stored_whole}
use Rattle.sections.specs.LittleEndian.{bytes_of}
use Rattle.network_bytes.proofs.fill_levels.Goals as goal

pub loop-i-preserved : goal.loop-i-preserved
loop-i-preserved c =
    let a = c.args in
    let here : 0 + 4 * c.loop-i.i ≡ 4 * c.loop-i.i = omega arith in (
      omega arith,
      stored_entry (λ x. bytes_of 4 (dropped_bits x)) 4 (λ x. length-bytes_of 4 (dropped_bits x)) a.levels.now a.part.now 0
          c.loop-i.i 0 (omega arith) (omega (arith, c.requires)) c.loop-i.invariant.1 (rw (here, ← c.drop_bits.ensures) c.write.ensures),
    )

pub returns : goal.returns
returns c =
    let a = c.args in
    stored_whole (λ x. bytes_of 4 (dropped_bits x)) 4 (λ x. length-bytes_of 4 (dropped_bits x)) a.levels.now a.part.now c.loop-i.i
    (omega arith) c.requires c.loop-i.invariant.1
