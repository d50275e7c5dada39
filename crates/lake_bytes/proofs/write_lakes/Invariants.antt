-- `lake_bytes::write_lakes` meets its contract: after i turns the bytes of the first i lakes stand at the start.
-- Assumes nothing.
use mathlib.Core.Path.{◌≡◌}
use Prim.Native.Nat.{◌-◌, ◌≤◌}
use lib.ListN.{length}
use Rattle.lake_bytes.specs.LakeBytes.{lakes_bytes}
use Rattle.lake_rows.specs.Reading.{read_lakes}
use Rattle.lists.specs.Lists.{overwrite}
use Rattle.lake_bytes.proofs.write_lakes.Given as goal

abbrev pub invariant-loop-i : goal.invariant-loop-i
invariant-loop-i l = (l.i ≤ l.n) × (length l.out ≡ length l.initial.out) × (l.out ≡ overwrite (lakes_bytes (read_lakes l.rows l.i)) l.initial.out)

abbrev pub decreases-loop-i : goal.decreases-loop-i
decreases-loop-i l = l.n - l.i
