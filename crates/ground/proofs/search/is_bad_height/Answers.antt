-- `ground::search::is_bad_height` meets its contract: an entry that fails the test of the range is a bad height.
-- Assumes nothing.
use lib.IntN.{pos}
use lib.ListN.{get_or}
use mir.Facts.{to_z-of_z}
use mir.Syntax.{w32}
use mir.Val.{SFits}
use borrow.Author.Rules.{rules}
use Rattle.ground.proofs.search.is_bad_height.Goals as goal

pub returns : goal.returns
returns c =
    let a = c.args in
    let f : SFits w32 (get_or a.list.now a.cell (pos 0)) = search rules in
    rw (c.in_range.ensures, to_z-of_z f)
