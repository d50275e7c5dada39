-- `groups::hang` meets its contract: the greater of the two roots names the lesser.
-- Assumes nothing.
use Rattle.groups.proofs.Merging.{hung_greater}
use Rattle.groups.proofs.hang.Goals as goal

pub returns : goal.returns
returns g c =
    let r = c.requires in
    rw (c.from.ensures, c.max.ensures, c.min.ensures, c.number-a.ensures, c.number-b.ensures) (hung_greater c.args.group.now r.0 _ _ r.1 r.2)
