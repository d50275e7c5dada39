-- `network::lift_heights` meets its contract: what is filled in for each place is the list's height there, lifted.
-- Assumes nothing.
use mathlib.Core.Path.{◌∙◌}
use borrow.Author.Rules.{rules}
use lib.IntN.{pos}
use lib.ListN.{get_or}
use Rattle.network.proofs.Lifts.{filled_map}
use Rattle.rules.specs.Ground.{lifted}
use Rattle.network.proofs.lift_heights.Goals as goal

pub returns : goal.returns
returns c =
    let a = c.args in
    c.fill.ensures (λ k. lifted (get_or a.heights.now k (pos 0))) (λ k l y e. search rules)
    ∙ filled_map lifted (pos 0) 0 a.heights.now a.out.now
