-- `lakes::answer` writes the text of the whole input, as the bytes that it reads decide it.
-- Assumes nothing.
use Rattle.lakes.proofs.Input.{lakes_enough_read}
use Rattle.lakes.specs.Program.{lakes_program_text}
use Rattle.text.proofs.Writing.{printed_text}
use Rattle.lakes.proofs.answer.Goals as goal

pub returns : goal.returns
returns g c = c.answer.ensures lakes_program_text lakes_enough_read (λ bytes text n left made. printed_text made)
