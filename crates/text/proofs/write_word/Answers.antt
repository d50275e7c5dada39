-- `text::write_word` meets its contract: the section of a word is the word.
-- Assumes nothing.
use Rattle.std.proofs.Common.{rules}
use Rattle.sections.proofs.Sections.{section_of_bytes}
use Rattle.text.proofs.write_word.Goals as goal

pub returns : goal.returns
returns c =
    let e = rw (section_of_bytes c.args.word.now) at c.write_section.ensures in
    search rules
