-- `network_record::write_linked` meets its contract: the network stands at the start of the lists of the walk and of the basins, and is written.
-- Assumes nothing.
use mathlib.Core.List.{List}
use mathlib.Core.Path.{◌≡◌}
use Prim.Native.Nat.{ℕ}
use lib.ListN.{replicate}
use Rattle.network_record.proofs.Writing.{record_written, writable}
use Rattle.ground.specs.Record.{ground_in}
use Rattle.network.proofs.Networks.{network_full}
use Rattle.lists.proofs.Overwrite.{overwrite-take}
use Rattle.rules.proofs.SixLists.{six_lists_same}
use Rattle.rules.specs.Ground.{cells_of, Ground}
use Rattle.rules.specs.Network.{lifted_network_by, Network}
use Rattle.rules.specs.SixLists.{first_of, six_lists}
use Rattle.network_record.proofs.write_linked.Goals as goal
use Rattle.network_record.proofs.write_linked.Goals.{After-walk_record}

abbrev ground : After-walk_record → Ground
ground c = let a = c.args in ground_in a.bytes.now a.size.width a.size.height

-- what stands in the six lists
abbrev lists : After-walk_record → Network ℕ
lists c =
    six_lists c.walk_record.new.receivers c.args.basins.now c.walk_record.new.order c.walk_record.new.levels c.walk_record.new.drainage c.walk_record.new.wet

network-here : (c : After-walk_record)
    → let a = c.args in first_of (cells_of (ground c)) (lists c) ≡ lifted_network_by a.neighbours a.manner (ground c)
network-here c =
    let n = cells_of (ground c) in
    let net = lifted_network_by c.args.neighbours c.args.manner (ground c) in
    let F = network_full c.args.neighbours c.args.manner (ground c) c.requires.readable.good in
    let zeros : List ℕ = replicate 4096 0 in
    let e = c.walk_record.ensures in
    six_lists_same
    (overwrite-take net.receivers zeros n F.receivers_full e.receivers_are)
    c.requires.basins_value
    (overwrite-take net.order zeros n F.order_full e.order_is)
    (overwrite-take net.levels zeros n F.levels_full e.levels_are)
    (overwrite-take net.drainage zeros n F.drainage_full e.drainage_is)
    (overwrite-take net.wet zeros n F.wet_full e.wets_are)

pub walk_record-requires : goal.walk_record-requires
walk_record-requires c =
    let few = c.requires.readable.few in
    record {
      readable = c.requires.readable;
      linked_record = c.requires.linked_record;
      lent_holds = record { fits_stack = few; fits_order = few; fits_receivers = few; fits_levels = few; fits_wets = few };
    }

pub write_network-requires : goal.write_network-requires
write_network-requires c =
    let at-place = (goal.at.write_network-requires c).After-walk_record in
    writable c.args.neighbours c.args.manner (ground at-place) c.requires.readable.good (lists at-place) (network-here at-place)
    c.args.network.now c.requires.width_in_bounds

pub returns : goal.returns
returns c =
    let at-place = (goal.at.returns c).After-walk_record in
    record_written c.args.neighbours c.args.manner (ground at-place) c.requires.readable.good (lists at-place) (network-here at-place) c.args.network.now
    c.write_network.ensures
