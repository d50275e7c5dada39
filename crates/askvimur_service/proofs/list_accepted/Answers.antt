-- `askvimur_service::list_accepted` meets its contract: what is found is the ground's, and is written.
-- Assumes nothing.
use native.Mathlib.Omega.{arith}
use Rattle.ground.specs.Record.{ground_in}
use Rattle.lake_stages.proofs.FoundLakes.{found_read}
use Rattle.lake_stages.specs.LakesOn.{lakes_on, too_deep_on}
use Rattle.lake_stages.specs.ReadFound.{ReadFound}
use Rattle.rules.specs.Ground.{Ground}
use Rattle.askvimur_service.proofs.list_accepted.Goals as goal
use Rattle.askvimur_service.proofs.list_accepted.Goals.{After-record_lakes-found}

abbrev ground : After-record_lakes-found → Ground
ground c = let a = c.args in ground_in a.ground.now a.size.width a.size.height

read_here : (c : After-record_lakes-found)
    → ReadFound (too_deep_on (ground c)) (lakes_on (ground c)) c.record_lakes-found.result c.record_lakes-found.new.rows
read_here c =
    let R = c.requires in
    let long = c.record_lakes-found.auto.rows in
    found_read (ground c) R.good c.record_lakes-found.new.rows (omega (arith, long, R.few)) c.record_lakes-found.ensures

pub record_lakes-found-requires : goal.record_lakes-found-requires
record_lakes-found-requires c = record {
  readable = c.requires;
  width_in_bounds = omega (arith, c.requires.few);
}

pub write_found-requires : goal.write_found-requires
write_found-requires c =
    let at-place = (goal.at.write_found-requires c).After-record_lakes-found in
    (too_deep_on (ground at-place), lakes_on (ground at-place), read_here at-place)

pub returns : goal.returns
returns c =
    let at-place = (goal.at.returns c).After-record_lakes-found in
    c.write_found.ensures (too_deep_on (ground at-place)) (lakes_on (ground at-place)) (read_here at-place)
