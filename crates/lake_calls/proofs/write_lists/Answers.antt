-- `lake_calls::write_lists` meets its contract: each list is filled with a number of each lake.
-- Assumes nothing.
use mathlib.Core.Path.{◌∙◌}
use native.Mathlib.Omega.{arith}
use borrow.Author.Rules.{rules}
use Rattle.lake_calls.proofs.Rows.{filled-lakes}
use Rattle.lake_calls.specs.LakeCall.{lake_lists}
use Rattle.lake_rows.specs.Reading.{count_in, least_in, level_in, volume_in}
use Rattle.lake_rows.proofs.Rows.{level_read}
use Rattle.rules.specs.Ground.{dropped}
use Rattle.lake_calls.proofs.write_lists.Goals as goal

pub fill-requires-clause-callable : goal.fill-requires-clause-callable
fill-requires-clause-callable c =
    λ k h _ _ _ _ _ _ _.
    (omega (arith, h, c.requires.n_in_bounds.0), level_read c.args.rows.now c.args.n c.requires.n_in_bounds.1 k h)

pub returns : goal.returns
returns c =
    let a = c.args in
    let rows = a.rows.now in
    let n = a.n in
    let levels = c.fill.ensures (λ i. dropped (level_in rows i)) (λ k h y e. search rules) ∙ filled-lakes (λ x. dropped x.level) rows n a.levels.now in
    let counts = c.fill-2.ensures (count_in rows) (λ k h y e. search rules) ∙ filled-lakes (λ x. x.count) rows n a.counts.now in
    let volumes = c.fill-3.ensures (volume_in rows) (λ k h y e. search rules) ∙ filled-lakes (λ x. x.volume) rows n a.volumes.now in
    let leasts = c.fill-4.ensures (least_in rows) (λ k h y e. search rules) ∙ filled-lakes (λ x. x.least) rows n a.leasts.now in
    λ i. lake_lists (levels i) (counts i) (volumes i) (leasts i)
