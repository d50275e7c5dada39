-- `text::write_refused` meets its contract: the line is the word "refused" and two numbers.
-- Assumes nothing.
use native.Mathlib.Omega.{arith}
use borrow.Author.Rules.{rules}
use Rattle.text.proofs.Lengths.{refused_text_fits}
use Rattle.text.specs.Text.{refused_text}
use Rattle.text.proofs.write_refused.Goals as goal

pub write_pair-requires : goal.write_pair-requires
unfolding refused_text
write_pair-requires c =
    let a = c.args in
    omega (arith, refused_text_fits a.number a.place (omega (arith, c.ranges.number)) (omega (arith, c.ranges.place)))

pub returns : goal.returns
unfolding refused_text
returns c = search rules
