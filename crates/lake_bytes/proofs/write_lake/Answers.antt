-- `lake_bytes::write_lake` meets its contract: four numbers, one after the other.
-- Assumes nothing.
use mathlib.Core.List.{List}
use mathlib.Core.Path.{ap, ◌∙◌}
use Prim.Native.Nat.{ℕ, ◌+◌}
use Rattle.heights.specs.Bits.{dropped_bits}
use Rattle.lake_bytes.proofs.Laws.{lake-written}
use Rattle.lists.specs.Lists.{stored}
use Rattle.sections.specs.LittleEndian.{bytes_of}
use Rattle.lake_bytes.proofs.write_lake.Goals as goal

pub returns : goal.returns
returns c =
    let a = c.args in
    let bits = c.drop_bits.ensures ∙ ap dropped_bits c.level_in.ensures in
    let put : (w k : ℕ) (l : List ℕ) → ℕ → List ℕ = λ w k l x. stored (a.from + k) (bytes_of w x) l in
    lake-written a.rows.now a.i a.from a.out.now c.requires.0 c.requires.2
    (c.write.ensures ∙ ap (λ (x : ℕ). stored a.from (bytes_of 4 x) a.out.now) bits)
    (c.write-2.ensures ∙ ap (put 2 4 c.write.new.bytes) c.count_in.ensures)
    (c.write-3.ensures ∙ ap (put 2 6 c.write-2.new.bytes) c.least_in.ensures)
    (c.write-4.ensures ∙ ap (put 8 8 c.write-3.new.bytes) c.volume_in.ensures)
