-- `groups::alone` meets its contract: a list filled with its places is 0, 1, .., and so on.
-- Assumes nothing.
use mathlib.Core.Path.{◌∙◌, ◌≡◌}
use lib.ListN.{length}
use borrow.Author.Rules.{rules}
use Rattle.groups.proofs.Roots.{alone_filled}
use Rattle.lists.specs.Lists.{filled}
use Rattle.groups.proofs.alone.Goals as goal

pub returns : goal.returns
returns c =
    let g = c.args.group.now in
    let e : c.fill.new.out ≡ filled (λ b. b) (length g) g = search rules in
    e ∙ alone_filled g
