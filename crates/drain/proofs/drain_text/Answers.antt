-- `drain::drain_text` meets its contract: an accepted record and a refused input, each by its law.
-- Assumes nothing.
use mathlib.Core.Path.{sym, ◌∙◌}
use Rattle.drain.specs.Drain.{drain_text}
use Rattle.record_text.proofs.Input.{accepted_text, input_readable, refused_text_lem}
use Rattle.text.proofs.Writing.{printed_same}
use Rattle.text.specs.Text.{ground_text}
use Rattle.drain.proofs.drain_text.Goals as goal

pub print_tile-requires : goal.print_tile-requires
print_tile-requires c =
    record {
      readable = input_readable c.args.bytes.now (sym c.judge_input.ensures ∙ c.in-Ok.is);
      most_text_in_bounds = c.requires;
    }

pub returns-in-Ok : goal.returns-in-Ok
unfolding drain_text
returns-in-Ok c =
    let s = c.args.bytes.now in
    printed_same c.print_tile.ensures
    (sym (accepted_text ground_text s (sym c.judge_input.ensures ∙ c.in-Ok.is)))

pub returns-in-Err : goal.returns-in-Err
unfolding drain_text
returns-in-Err c =
    let s = c.args.bytes.now in
    printed_same c.write_refusal.ensures
    (sym (refused_text_lem ground_text s (sym c.judge_input.ensures ∙ c.in-Err.is)))
