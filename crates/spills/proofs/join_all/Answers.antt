-- `spills::join_all` meets its contract: the groups that the notes tell of are its own.
-- Assumes nothing.
use Rattle.spills.proofs.join_all.Goals as goal

pub returns : goal.returns
returns c = let j = c.join_along in λ heights S. (j.new.group, j.ensures heights S)
