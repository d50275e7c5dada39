-- `lakes::print_lakes` meets its contract: the lakes are printed out of their rows, and a lake that is too deep is refused with 10.
-- Assumes nothing.
use mathlib.Core.List.{List}
use native.Mathlib.Omega.{arith}
use Rattle.ground.specs.Record.{ground_in}
use Rattle.lake_stages.proofs.FoundLakes.{found_read}
use Rattle.lake_stages.proofs.ReadLakes.{lakes_found}
use Rattle.lake_stages.specs.LakesOn.{lakes_on, too_deep_on}
use Rattle.lake_stages.specs.ReadFound.{ReadFound}
use Rattle.lake_list.specs.declared.Row.{Row}
use Rattle.lakes.proofs.Finding.{deep_text, listed_text}
use Rattle.rules.specs.Ground.{Ground}
use Rattle.text.proofs.Writing.{printed_same}
use Rattle.lakes.proofs.print_lakes.Goals as goal
use Rattle.lakes.proofs.print_lakes.Goals.{After-record_lakes-found}

abbrev ground : After-record_lakes-found → Ground
ground c = let a = c.args in ground_in a.bytes.now a.size.width a.size.height

abbrev rows : After-record_lakes-found → List Row
rows c = c.record_lakes-found.new.rows

read_here : (c : After-record_lakes-found) → ReadFound (too_deep_on (ground c)) (lakes_on (ground c)) c.record_lakes-found.result (rows c)
read_here c =
    let R = c.requires.readable in
    let long = c.record_lakes-found.auto.rows in
    found_read (ground c) R.good (rows c) (omega (arith, long, R.few)) c.record_lakes-found.ensures

pub record_lakes-found-requires : goal.record_lakes-found-requires
record_lakes-found-requires c = record {
  readable = c.requires.readable;
  width_in_bounds = omega (arith, c.requires.readable.few);
}

pub write_lakes-requires : goal.write_lakes-requires
write_lakes-requires c =
    let K = lakes_found (read_here (goal.at.write_lakes-requires c).After-record_lakes-found) c.in-Ok.is in
    let long = c.record_lakes-found.auto.rows in
    record {
      n_bound = (omega (arith, K.held), K.held, K.fit);
      most_lakes_text_in_bounds = c.requires.most_lakes_text_in_bounds;
    }

pub returns-in-Ok : goal.returns-in-Ok
returns-in-Ok c =
    let at-place = (goal.at.returns-in-Ok c).After-record_lakes-found in
    printed_same c.write_lakes.ensures (listed_text (ground at-place) (read_here at-place) c.in-Ok.is)

pub returns-in-Err : goal.returns-in-Err
returns-in-Err c =
    let at-place = (goal.at.returns-in-Err c).After-record_lakes-found in
    printed_same c.write_refused.ensures (deep_text (ground at-place) (read_here at-place) c.in-Err.is)
