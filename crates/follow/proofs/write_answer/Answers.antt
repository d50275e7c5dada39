-- `write_answer` meets its contract: no line is longer than 25 bytes.
-- Assumes nothing.
use Rattle.std.proofs.Common.{rules, arith, ◌++◌, ◌∷◌, []}
use Rattle.follow.specs.Follow.{outlet_word, stopped_word}
use Rattle.text.proofs.Lengths.{pair_line_fits}
use Rattle.follow.proofs.write_answer.Goals as goal

pub write_pair-requires : goal.write_pair-requires
write_pair-requires c =
    omega (arith, c.requires, pair_line_fits (outlet_word ++ (32 ∷ [])) c.in-Ok-Outlet.cell.0 c.in-Ok-Outlet.steps (search rules) (search rules))

pub write_pair-requires-in-Ok-Stopped : goal.write_pair-requires-in-Ok-Stopped
write_pair-requires-in-Ok-Stopped c =
    omega (arith, c.requires, pair_line_fits (stopped_word ++ (32 ∷ [])) c.in-Ok-Stopped.cell.0 c.in-Ok-Stopped.steps (search rules) (search rules))
