-- `links::link_pairs` meets its contract: before a place the masks say the links that were there and those of the pairs before it.
-- Assumes nothing.
use mathlib.Core.Bool.{Bool}
use mathlib.Core.Path.{◌≡◌}
use Prim.Native.Nat.{ℕ}
use lib.ListN.{take}
use Rattle.grid.specs.Masks.{mask_of}
use Rattle.grid.specs.Window.{around}
use Rattle.lists.specs.Lists.{filled}
use Rattle.links.specs.PairLinks.{Addable, with_pairs}
use Rattle.links.proofs.link_pairs.Given as goal

abbrev pub invariant-loop-p : goal.invariant-loop-p
invariant-loop-p l =
    (n : ℕ) → (E : ℕ → ℕ → Bool) → Addable l.w n E l.pairs l.initial.links
    → l.links ≡ filled (mask_of around l.w n (with_pairs l.w (take l.p-index l.pairs) E)) n l.initial.links
