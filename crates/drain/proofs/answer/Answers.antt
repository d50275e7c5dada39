-- `drain::answer` writes the text of the whole input, as the bytes that it reads decide it.
-- Assumes nothing.
use Rattle.drain.proofs.Input.{drain_enough}
use Rattle.drain.specs.Drain.{drain_text}
use Rattle.text.proofs.Writing.{printed_text}
use Rattle.drain.proofs.answer.Goals as goal

pub returns : goal.returns
returns g c = c.answer.ensures drain_text drain_enough (λ bytes text n left made. printed_text made)
