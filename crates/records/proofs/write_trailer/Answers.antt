-- `records::write_trailer` meets its contract: the part that was lent comes back as the trailer.
-- Assumes nothing.
use mathlib.Core.Path.{ap, ◌≡◌}
use Prim.Native.Nat.{ℕ, ◌+◌}
use lib.ListN.{length}
use Rattle.ground.specs.Record.{trailer}
use Rattle.lists.proofs.Stored.{stored-part}
use Rattle.records.proofs.Sections.{length-trailer}
use Rattle.records.proofs.write_trailer.Goals as goal

pub returns : goal.returns
returns c =
    let a = c.args in
    let e : a.from + length (trailer a.width a.height) ≡ a.from + 16 =
    ap (λ (n : ℕ). a.from + n) (length-trailer a.width a.height) in
    stored-part a.bytes.now a.from (a.from + 16) e c.fill_trailer.ensures
