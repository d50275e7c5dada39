-- `sections::fill` meets its contract: after i turns the section of the first i entries is stored.
-- Assumes nothing.
use Rattle.std.specs.Prelude.{◌≡◌, ◌≤◌, length, take}
use Rattle.lists.specs.Lists.{flat, stored}
use Rattle.sections.proofs.fill.Given as goal

abbrev pub invariant-loop-i : goal.invariant-loop-i
invariant-loop-i g l =
    (l.i ≤ length l.list) × (l.part ≡ stored 0 (flat g.T.LittleEndian.in_bytes (take l.i l.list)) l.initial.part)
