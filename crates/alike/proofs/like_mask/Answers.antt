-- `alike::like_mask` meets its contract: of four neighbours the sides alone, otherwise sides and corners.
-- Assumes nothing.
use Rattle.alike.specs.Narrowed.{narrowed_by}
use Rattle.alike.proofs.like_mask.Goals as goal

pub returns-in-Four : goal.returns-in-Four
unfolding narrowed_by
returns-in-Four c = rw c.in-Four.is c.like_sides-straight.ensures.0

pub returns-in-Eight : goal.returns-in-Eight
unfolding narrowed_by
returns-in-Eight c = rw (c.in-Eight.is, c.like_corners.ensures.0, c.like_sides-straight.ensures.0)
