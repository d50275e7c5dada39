-- `walk::settle` meets its contract: three stores, each of what its function gives.
-- Assumes nothing.
use Rattle.std.proofs.Common.{ℕ, Bool, cond, set, refl, ap, ◌∙◌}
use Rattle.lists.proofs.Bytes.{byte_of}
use Rattle.lists.specs.Lists.{at}
use Rattle.rules.specs.Network.{is_wet}
use Rattle.walk.proofs.settle.Goals as goal

pub returns : goal.returns
returns c =
    let a = c.args in
    let level = c.max-level in
    let wet = c.is_wet in
    let mark = c.from in
    let height : ℕ = at a.heights.now a.c.0 in (
      refl,
      ap (set a.levels.now a.c.0) level.ensures,
      ap (set a.wets.now a.c.0)
          (mark.ensures ∙ byte_of wet.result ∙ ap (λ (b : Bool). cond b 1 0) wet.ensures ∙ ap (λ (l : ℕ). cond (is_wet height l) 1 0) level.ensures),
    )
