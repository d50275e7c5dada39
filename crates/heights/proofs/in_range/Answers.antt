-- `heights::in_range` meets its contract: the two halves of the code's test are the definition's, by the sign of the height.
-- Assumes nothing.
use Rattle.std.proofs.Common.{to_z-of_z}
use Rattle.heights.proofs.Heights.{range-high, range-low}
use Rattle.heights.proofs.in_range.Goals as goal

pub returns-then-height-geminus8000000 : goal.returns-then-height-geminus8000000
returns-then-height-geminus8000000 c =
    let back = to_z-of_z c.ranges.height in
    rw back (range-high c.args.height (rw back at c.if-height-geminus8000000.true))

pub returns-else-height-geminus8000000 : goal.returns-else-height-geminus8000000
returns-else-height-geminus8000000 c =
    let back = to_z-of_z c.ranges.height in
    rw back (range-low c.args.height (rw back at c.if-height-geminus8000000.false))
