-- `text::write_size` meets its contract: the first line is the word "tile" and two numbers.
-- Assumes nothing.
use borrow.Author.Rules.{rules}
use Rattle.text.proofs.Writing.{wrote}
use Rattle.text.specs.Text.{size_line}
use Rattle.text.proofs.write_size.Goals as goal

pub write_pair-requires : goal.write_pair-requires
unfolding size_line
write_pair-requires c = search rules

pub returns : goal.returns
unfolding size_line
returns c = wrote c.write_pair.ensures
