-- `network_impostors::sample_d_for_all::network` meets its contract: the real call draws, and sample D's network is written over a 3 by 3 tile's.
-- Assumes nothing.
use mathlib.Core.Path.{sym, ◌∙◌}
use Rattle.network_impostors.proofs.WrittenOver.{nine_hold, other_left, sample_d-left}
use Rattle.network_impostors.proofs.sample_d_for_all.network.Goals as goal

pub returns-then-not-accepted_three_by_three : goal.returns-then-not-accepted_three_by_three
returns-then-not-accepted_three_by_three c =
    let drawn = c.network-judged in
    other_left _ _ drawn.result drawn.ensures (sym c.accepted_three_by_three.ensures ∙ c.if-not-accepted_three_by_three.true)

pub sample_d-requires : goal.sample_d-requires
sample_d-requires c =
    let drawn = c.network-judged in
    nine_hold _ _ drawn.result drawn.ensures (sym c.accepted_three_by_three.ensures ∙ c.if-not-accepted_three_by_three.false)

pub returns : goal.returns
returns c =
    let drawn = c.network-judged in
    sample_d-left _ _ drawn.result drawn.ensures (sym c.accepted_three_by_three.ensures ∙ c.if-not-accepted_three_by_three.false)
    c.sample_d.ensures
