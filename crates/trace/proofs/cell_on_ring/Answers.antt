-- `trace::cell_on_ring` meets its contract: whole rounds don't count.
-- Assumes nothing.
use mathlib.Core.Path.{ap, sym, ◌∙◌, ◌≡◌}
use Prim.Native.Nat.{ℕ, ◌%◌, ◌<◌}
use native.Mathlib.Nat.{mod-lt}
use native.Mathlib.Omega.{arith}
use Rattle.lists.specs.Lists.{at, repeat}
use Rattle.trace.proofs.Ring.{repeat_modulo, round_trip}
use Rattle.trace.specs.Ring.{ring_length}
use Rattle.trace.proofs.cell_on_ring.Goals as goal

pub cell_after-requires : goal.cell_after-requires
cell_after-requires c =
    let n = c.ring_length.result in
    let e : n ≡ ring_length c.args.receivers.now c.args.home.0 = c.ring_length.ensures in
    let l : c.args.moves % n < n = mod-lt c.args.moves (omega arith) in
    (c.requires.stays, omega (arith, c.requires.short))

pub returns : goal.returns
returns c =
    let r = c.args.receivers.now in
    let h = c.args.home.0 in
    c.cell_after.ensures
    ∙ ap (λ (p : ℕ). repeat (c.args.moves % p) (at r) h) c.ring_length.ensures
    ∙ sym (repeat_modulo (at r) (ring_length r h) c.args.moves h (round_trip r h c.requires))
