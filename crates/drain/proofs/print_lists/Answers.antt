-- `drain::print_lists` meets its contract: what is printed are the first N entries of the lists, and the marks and the water of the record.
-- Assumes nothing.
use mathlib.Core.List.{List}
use mathlib.Core.Path.{◌≡◌}
use Prim.Native.Nat.{ℕ, ◌*◌, ◌-◌}
use lib.ListN.{replicate, take}
use Rattle.drain.proofs.Printing.{printable, text_is}
use Rattle.ground.specs.Record.{ground_in}
use Rattle.lists.specs.Lists.{stretch}
use Rattle.record_stages.proofs.Reading.{marks_are, water_are}
use Rattle.rules.specs.Ground.{cells_of, Ground}
use Rattle.text.proofs.Writing.{printed_same}
use Rattle.drain.proofs.print_lists.Goals as goal
use Rattle.drain.proofs.print_lists.Goals.{After-read_section}

abbrev ground : After-read_section → Ground
ground c = let a = c.args in ground_in a.bytes.now a.size.width a.size.height

-- N, as it was counted
abbrev count : After-read_section → ℕ
count c = c.cells-n.result

counted : (c : After-read_section) → count c ≡ cells_of (ground c)
counted c = c.cells-n.ensures

-- the marks where they stand, and the water as it was read
abbrev marks : After-read_section → List ℕ
marks c = stretch (4 * count c) (5 * count c - 4 * count c) c.args.bytes.now

abbrev water : After-read_section → List ℕ
water c = c.read_section.new.list

marks-here : (c : After-read_section) → marks c ≡ (ground c).marks
marks-here c =
    let a = c.args in
    marks_are a.bytes.now a.size.width a.size.height c.requires.readable.good (count c) (counted c)

water-here : (c : After-read_section) → take (count c) (water c) ≡ (ground c).water
water-here c =
    let a = c.args in
    water_are a.bytes.now a.size.width a.size.height c.requires.readable.good (replicate 4096 0) (count c) (counted c) c.read_section.ensures

pub write_tile-requires : goal.write_tile-requires
write_tile-requires c =
    let at-place = (goal.at.write_tile-requires c).After-read_section in
    let a = c.args in
    let net = c.requires.receivers_value in
    printable (ground at-place) c.requires.readable.good (count at-place) (counted at-place) a.receivers.now a.levels.now a.drainage.now
    (marks at-place) (water at-place) net.0 net.1 net.2 (marks-here at-place) (water-here at-place) c.requires.most_text_in_bounds

pub returns : goal.returns
returns c =
    let at-place = (goal.at.returns c).After-read_section in
    let a = c.args in
    let net = c.requires.receivers_value in
    printed_same c.write_tile.ensures
    (text_is (ground at-place) c.requires.readable.good (count at-place) (counted at-place) a.receivers.now a.levels.now a.drainage.now
    (marks at-place) (water at-place) net.0 net.1 net.2 (marks-here at-place) (water-here at-place))
