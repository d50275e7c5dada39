-- `sheet::step_weights` meets its contract: before turn c the first c cells have their weights, and those from c on are as they were.
-- Assumes nothing.
use Rattle.std.proofs.Common.{◌≡◌, ℕ, ◌+◌, length, sym, refl, ap, ◌∙◌, arith, rules}
use Rattle.lists.proofs.Filled.{filled_none, filled_past, filled_put}
use Rattle.lists.specs.Lists.{at, filled}
use Rattle.sheet.specs.LevelSteps.{lead_weight}
use Rattle.sheet.proofs.step_weights.Goals as goal
use Rattle.sheet.proofs.step_weights.Goals.{Start}

-- each cell's weight
abbrev led : Start → ℕ → ℕ
led st = let a = st.args in lead_weight a.neighbours a.w a.likes.now a.counts.now a.weights.now

pub loop-c-init : goal.loop-c-init
loop-c-init c = sym (filled_none (led (goal.at.loop-c-init c).Start) c.args.weights.now)

pub loop-c-preserved : goal.loop-c-preserved
loop-c-preserved c =
    let a = c.args in
    let i = c.loop-c.invariant in
    let own : at c.loop-c.weights c.loop-c.c ≡ at a.weights.now c.loop-c.c =
    ap (λ l. at l c.loop-c.c) i ∙ filled_past (led (goal.at.loop-c-preserved c).Start) c.loop-c.c a.weights.now c.loop-c.c (omega arith) in
    filled_put (led (goal.at.loop-c-preserved c).Start) c.loop-c.c (c.loop-c.c + 1) a.weights.now (search rules) i refl
    (c.lead_weight.ensures ∙ rw (own, c.step_weight-step.ensures)) refl

pub returns : goal.returns
returns c =
    let e : c.loop-c.c ≡ length c.args.likes.now = omega arith in
    c.loop-c.invariant ∙ ap (λ (k : ℕ). filled (led (goal.at.returns c).Start) k c.args.weights.now) e
