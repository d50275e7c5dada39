-- `network_impostors::answers::accepted_cells` meets its contract: the cases of the code are the definition's.
-- Assumes nothing.
use mathlib.Core.Path.{ap, sym, ◌∙◌}
use Rattle.network_impostors.specs.Impostors.{accepted_cells}
use Rattle.network_impostors.proofs.answers.accepted_cells.Goals as goal

pub returns-in-Ok : goal.returns-in-Ok
returns-in-Ok c = c.cells.ensures ∙ sym (ap accepted_cells c.in-Ok.is)
