-- `text::total_water` meets its contract: the chain sums the list.
-- Assumes nothing.
use Rattle.std.proofs.Common.{rules, ◌≡◌, ◌∙◌}
use Rattle.std.specs.Prelude.{sum}
use Rattle.text.proofs.Sums.{sum_same}
use Rattle.text.proofs.total_water.Goals as goal

pub returns : goal.returns
returns c = let e : c.sum.result ≡ sum c.args.water.now = search rules in e ∙ sum_same c.args.water.now
