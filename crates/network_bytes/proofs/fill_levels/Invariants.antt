-- `network_bytes::fill_levels` meets its contract: after i turns the section of the first i levels is stored.
-- Assumes nothing.
use Rattle.std.specs.Prelude.{◌≡◌, ◌≤◌, length, take}
use Rattle.heights.specs.Bits.{dropped_bits}
use Rattle.lists.specs.Lists.{flat, stored}
use Rattle.sections.specs.LittleEndian.{bytes_of}
use Rattle.network_bytes.proofs.fill_levels.Given as goal

abbrev pub invariant-loop-i : goal.invariant-loop-i
invariant-loop-i l =
    (l.i ≤ length l.levels) × (l.part ≡ stored 0 (flat (λ x. bytes_of 4 (dropped_bits x)) (take l.i l.levels)) l.initial.part)
