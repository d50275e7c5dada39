-- `follow::answer` writes the text of the whole input, as the bytes that it reads decide it.
-- Assumes nothing.
use Rattle.follow.proofs.Input.{follow_enough}
use Rattle.follow.specs.Follow.{follow_text}
use Rattle.text.proofs.Writing.{printed_text}
use Rattle.follow.proofs.answer.Goals as goal

pub returns : goal.returns
returns g c = c.answer.ensures follow_text follow_enough (λ bytes text n left made. printed_text made)
