-- `lake_calls::judge_found` meets its contract: the case of what was found, and the test of the room.
-- Assumes nothing.
use mathlib.Core.Path.{ap, sym, ◌∙◌}
use native.Mathlib.Omega.{arith}
use borrow.Author.Tests.{le-leb, lt-leb}
use Rattle.lake_calls.specs.LakeCall.{judge_found}
use Rattle.std.proofs.lemmas.Result.{err_from_is_err_and}
use Rattle.std.specs.Prelude.{Err}
use Rattle.lake_calls.proofs.judge_found.Goals as goal

pub returns-in_err-count : goal.returns-in_err-count
returns-in_err-count c =
    let told = err_from_is_err_and c.from_residual.result c.from_residual.ensures.1 in
    told.1 ∙ ap Err told.2 ∙ ap (λ f. judge_found f c.args.room) (sym c.in_err-count.was)

pub returns-then-from-room : goal.returns-then-from-room
returns-then-from-room c =
    rw (c.in_ok-count.was, le-leb c.in_ok-count.count c.args.room (omega (arith, c.if-from-room.true, c.from.ensures)))

pub returns-else-from-room : goal.returns-else-from-room
returns-else-from-room c =
    rw (c.in_ok-count.was, lt-leb c.in_ok-count.count c.args.room (omega (arith, c.if-from-room.false, c.from.ensures)))
