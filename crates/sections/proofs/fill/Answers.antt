-- `sections::fill` meets its contract: after i turns the section of the first i entries is stored.
-- Assumes nothing.
use mathlib.Core.Path.{◌≡◌}
use Prim.Native.Nat.{◌*◌, ◌+◌}
use native.Mathlib.Omega.{arith}
use Rattle.sections.proofs.Sections.{stored_entry, stored_whole}
use Rattle.sections.proofs.fill.Goals as goal

pub loop-i-preserved : goal.loop-i-preserved
loop-i-preserved g c =
    let a = c.args in
    let t = g.T.LittleEndian in
    let x = c.index-list-i.result in
    let here : 0 + t.WIDTH * c.loop-i.i ≡ t.WIDTH * c.loop-i.i = omega arith in (
      omega arith,
      stored_entry t.in_bytes t.WIDTH g.met.T.LittleEndian.length_in_bytes a.list.now a.part.now 0 c.loop-i.i x (omega arith)
          (omega (arith, c.requires)) c.loop-i.invariant.1 (rw (here, ← c.index-list-i.is, ← c.WIDTH.ensures) c.write.ensures),
    )

pub returns : goal.returns
returns g c =
    let a = c.args in
    let t = g.T.LittleEndian in
    stored_whole t.in_bytes t.WIDTH g.met.T.LittleEndian.length_in_bytes a.list.now a.part.now c.loop-i.i (omega arith) c.requires
    c.loop-i.invariant.1
