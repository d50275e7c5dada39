-- `network::drop_levels` meets its contract: what is filled in for each place is the level there, dropped.
-- Assumes nothing.
use mathlib.Core.Path.{◌∙◌}
use borrow.Author.Rules.{rules}
use lib.IntN.{pos}
use Rattle.lists.specs.Lists.{at}
use Rattle.network.proofs.Lifts.{filled_map_take}
use Rattle.rules.specs.Ground.{dropped}
use Rattle.network.proofs.drop_levels.Goals as goal

pub returns : goal.returns
returns c =
    let a = c.args in
    c.fill.ensures (λ k. dropped (at a.levels.now k)) (λ k l y e. search rules)
    ∙ filled_map_take dropped 0 (pos 0) a.levels.now a.out.now a.n c.requires.0
