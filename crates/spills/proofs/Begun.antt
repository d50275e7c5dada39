-- No pair is joined yet: every label is a root, and none is noted.
-- Assumes nothing.
use mathlib.Core.List.{[], List}
use mathlib.Core.Path.{ap, ◌∙◌, ◌≡◌}
use Prim.Native.Nat.{ℕ, ◌≤◌}
use native.Mathlib.Omega.{arith}
use lib.ListN.{length}
use Rattle.groups.proofs.Following.{follows_none}
use Rattle.groups.proofs.Roots.{alone_down, alone-root}
use Rattle.groups.specs.Groups.{root_of}
use Rattle.lists.proofs.Range.{range_length}
use Rattle.lists.specs.Lists.{at, upto}
use Rattle.spills.specs.Noting.{no_note, Noting}
use Rattle.spills.specs.Spills.{label_edges}

pub noting_none : (w : ℕ) (heights labels g notes : List ℕ) → g ≡ upto 4097 → 4097 ≤ length notes
    → ((b : ℕ) → b ≤ 4096 → at notes b ≡ no_note) → Noting w heights labels [] g notes
noting_none w heights labels g notes e r n =
    record {
      sized = ap length e ∙ range_length 4097 0;
      room = r;
      groups = rw e (follows_none (label_edges w labels) (upto 4097) (alone_down 4097));
      roots = λ b h q. n b h;
      hung = λ b h z. absurd (z (ap (λ (l : List ℕ). root_of l b) e ∙ alone-root 4097 b (omega arith)));
    }
