-- `lakes::lakes_text` meets its contract: an accepted record and a refused input, each by its law.
-- Assumes nothing.
use mathlib.Core.Path.{sym, ◌∙◌}
use Rattle.lakes.specs.Program.{ground_lakes_text, lakes_program_text}
use Rattle.record_text.proofs.Input.{accepted_text, input_readable, refused_text_lem}
use Rattle.text.proofs.Writing.{printed_same}
use Rattle.lakes.proofs.lakes_text.Goals as goal

pub print_lakes-requires : goal.print_lakes-requires
print_lakes-requires c =
    record {
      readable = input_readable c.args.bytes.now (sym c.judge_input.ensures ∙ c.in-Ok.is);
      most_lakes_text_in_bounds = c.requires;
    }

pub returns-in-Ok : goal.returns-in-Ok
unfolding lakes_program_text
returns-in-Ok c =
    let s = c.args.bytes.now in
    printed_same c.print_lakes.ensures
    (sym (accepted_text ground_lakes_text s (sym c.judge_input.ensures ∙ c.in-Ok.is)))

pub returns-in-Err : goal.returns-in-Err
unfolding lakes_program_text
returns-in-Err c =
    let s = c.args.bytes.now in
    printed_same c.write_refusal.ensures
    (sym (refused_text_lem ground_lakes_text s (sym c.judge_input.ensures ∙ c.in-Err.is)))
