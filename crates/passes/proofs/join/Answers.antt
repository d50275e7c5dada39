-- `passes::join` meets its contract: it unites the labels of the pair's two cells.
-- Assumes nothing.
use native.Mathlib.Omega.{arith}
use Rattle.pairs.proofs.Pairs.{pair_climbs}
use Rattle.pairs.specs.Pairs.{greater_of, lesser_of}
use Rattle.passes.proofs.join.Goals as goal

pub bounds-labels-index : goal.bounds-labels-index
bounds-labels-index c =
    omega (arith, pair_climbs c.args.w c.args.p c.requires.w_nonzero.0)

pub bounds-labels-index-2 : goal.bounds-labels-index-2
bounds-labels-index-2 c =
    omega (arith, pair_climbs c.args.w c.args.p c.requires.w_nonzero.0)

pub unite-requires : goal.unite-requires
unite-requires c =
    let in-groups = c.requires.p_in_bounds.1 in
    let rise = pair_climbs c.args.w c.args.p c.requires.w_nonzero.0 in (
      rw (c.index.ensures.0, c.lesser-a.ensures) (in-groups (lesser_of c.args.p) (omega (arith, c.requires.p_in_bounds.0, rise))),
      rw (c.index-2.ensures.0, c.greater-b.ensures) (in-groups (greater_of c.args.w c.args.p) c.requires.p_in_bounds.0),
      c.requires.w_nonzero.3,
    )

pub returns : goal.returns
returns c =
    rw (c.index.ensures.0, c.index-2.ensures.0, c.lesser-a.ensures, c.greater-b.ensures) at c.unite.ensures
