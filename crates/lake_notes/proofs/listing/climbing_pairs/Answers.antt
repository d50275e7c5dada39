-- `lake_notes::climbing_pairs` meets its contract: the listed pairs can be sorted, and the sorted ones climb.
-- Assumes nothing.
use mathlib.Core.Path.{sym}
use native.Mathlib.Omega.{arith}
use lib.ListN.{drop, length-append}
use lib.Seq.{length-take-le, take_at}
use Rattle.lake_notes.proofs.Sorting.{wet_climbing, wet_sortable}
use Rattle.lake_notes.proofs.listing.climbing_pairs.Goals as goal

pub slice_bounds-sort_pairs-end-2 : goal.slice_bounds-sort_pairs-end-2
slice_bounds-sort_pairs-end-2 c =
    let l = c.wet_pairs-count in
    sym (length-take-le l.result l.new.list (omega (arith, l.ensures.1, l.auto.list, c.requires.1)))

pub sort_pairs-requires : goal.sort_pairs-requires
sort_pairs-requires c =
    let l = c.wet_pairs-count in
    let n = length-take-le l.result l.new.list (omega (arith, l.ensures.1, l.auto.list, c.requires.1)) in
    (wet_sortable c.requires.0 l.ensures.0.first, omega (arith, n, l.ensures.1, c.requires.0.grid.few))

pub returns : goal.returns
returns c =
    let s = c.sort_pairs in
    let l = c.wet_pairs-count in
    let l₁ = l.new.list in
    let n = length-take-le l.result l₁ (omega (arith, l.ensures.1, l.auto.list, c.requires.1)) in
    let long = s.auto.list in
    let sorted = s.new.list in (
      omega (arith, long, n, length-append sorted (drop l.result l₁)),
      rw (take_at sorted (drop l.result l₁) l.result (omega (arith, long, n))) (wet_climbing c.requires.0 l.ensures.0.first s.ensures),
    )
