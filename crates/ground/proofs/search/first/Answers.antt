-- `ground::search::first` meets its contract: nothing is found yet, and no cell before the two loops' is bad.
-- Assumes nothing.
use mathlib.Core.Path.{sym, ◌∙◌, ◌≡◌}
use Prim.Native.Nat.{◌*◌, ◌+◌, ◌<◌}
use native.Mathlib.Omega.{arith}
use borrow.Author.Count.{below_more}
use Rattle.grid.proofs.Rows.{cell_below, row_next}
use Rattle.lists.proofs.Find.{find_at, find_none}
use Rattle.ground.proofs.search.first.Goals as goal
use Rattle.ground.proofs.search.first.Goals.{else-search-test, then-search-test+then-loop-col-test+then-is_bad}

pub loop-col-init : goal.loop-col-init
loop-col-init g c =
    (c.search.invariant.0, omega arith, λ p h k l. c.search.invariant.2 p h k (omega arith))

pub loop-col-preserved : goal.loop-col-preserved
loop-col-preserved g c =
    let cell = c.search.row * c.from-width.result + c.loop-col.col in
    let inside : cell < c.args.size.height * c.args.size.width =
    rw (← c.from-width.ensures, ← c.from-height.ensures)
    (cell_below c.search.row c.loop-col.col c.from-width.result c.from-height.result c.search-test.true c.loop-col-test.true) in (
      c.loop-col.invariant.0,
      omega arith,
      λ p h k l.
          below_more _ _ (c.loop-col.invariant.2 p h) (sym (h cell inside c.is_bad.result c.is_bad.ensures) ∙ c.if-is_bad.false) k (omega arith),
    )

pub search-preserved : goal.search-preserved
search-preserved g c =
    let w = c.from-width.result in
    let n = row_next c.search.row w in
    (c.loop-col.invariant.0, omega arith, λ p h k l. c.loop-col.invariant.2 p h k (omega arith))

pub returns : goal.returns
returns g c =
    let w = c.from-width.result in
    let n = c.args.size.height * c.args.size.width in
    λ p h. elim c.search-test.branch [
      | else-search-test b ↦
          let all : c.search.row ≡ c.args.size.height = omega (arith, b.search-test.false, c.search.invariant.1, c.from-height.ensures) in
          rw (b.place-is ∙ c.search.invariant.0)
          (find_none p n (λ k l. c.search.invariant.2 p h k (rw (all, c.from-width.ensures) l)))
      | then-search-test+then-loop-col-test+then-is_bad b ↦
          let cell = c.search.row * w + b.loop-col.col in
          let inside : cell < n =
          rw (← c.from-width.ensures, ← c.from-height.ensures)
          (cell_below c.search.row b.loop-col.col w c.from-height.result b.search-test.true b.loop-col-test.true) in
          let bad = sym (h cell inside b.is_bad.result b.is_bad.ensures) ∙ b.if-is_bad.true in
          rw b.place-is (sym (find_at p n cell inside (b.loop-col.invariant.2 p h) bad), inside)
    ]
