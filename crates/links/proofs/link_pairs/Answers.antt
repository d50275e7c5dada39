-- `links::link_pairs` meets its contract: before a place the masks say the links that were there and those of the pairs before it.
-- Assumes nothing.
use mathlib.Core.List.{List}
use mathlib.Core.Path.{ap, ◌∙◌, ◌≡◌}
use Prim.Native.Nat.{ℕ}
use native.Mathlib.Omega.{arith}
use lib.ListN.{length, take}
use lib.Seq.{take-length}
use Rattle.grid.specs.Masks.{mask_of}
use Rattle.grid.specs.Window.{around}
use Rattle.lists.specs.Lists.{filled}
use Rattle.links.proofs.AddedLinks.{next_pair, none_yet, one_more}
use Rattle.links.specs.PairLinks.{with_pairs}
use Rattle.links.proofs.link_pairs.Goals as goal

pub loop-p-init : goal.loop-p-init
loop-p-init c = λ n E A. none_yet A

pub link_pair-requires : goal.link_pair-requires
link_pair-requires c =
    let (n, E, A) = c.requires in
    let next = next_pair A c.loop-p.p-index c.loop-p-test.true c.loop-p.links (c.loop-p.invariant n E A) in
    record {
      w_nonzero = (A.grid.rows.wide, A.grid.narrow, next.few, next.on);
      p_bound = (next.lesser_fits, next.greater_fits);
    }

pub loop-p-preserved : goal.loop-p-preserved
loop-p-preserved c = λ n E A.
    c.link_pair.ensures ∙ one_more A c.loop-p.p-index c.loop-p-test.true c.loop-p.links (c.loop-p.invariant n E A)

pub returns : goal.returns
returns c =
    let a = c.args in
    let e : c.loop-p.p-index ≡ length a.pairs.now = omega arith in
    λ n E A. c.loop-p.invariant n E A
    ∙ ap (λ (l : List ℕ). filled (mask_of around a.w n (with_pairs a.w l E)) n a.links.now)
    (ap (λ (k : ℕ). take k a.pairs.now) e ∙ take-length a.pairs.now)
