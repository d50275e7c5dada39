-- `lake_notes::join_in` meets its contract: each cell is alone and nothing is noted, then pair after pair is taken.
-- Assumes nothing.
use mathlib.Core.Path.{ap, ◌∙◌}
use Rattle.lake_notes.proofs.Turns.{as_long_sized, as_long_then, AsLong, so_far_begun}
use Rattle.lake_notes.specs.Meeting.{Lists, lists_of}
use Rattle.lists.specs.Lists.{upto}
use Rattle.lake_notes.proofs.meeting.join_in.Goals as goal
use Rattle.lake_notes.proofs.meeting.join_in.Goals.{After-begin, Start}

-- the lists that are given, and those that it begins with
abbrev given : Start → Lists
given c =
    let a = c.args in
    lists_of a.group.now a.lows.now a.flags.now a.parents.now a.joins.now

abbrev left : After-begin → Lists
left c =
    lists_of c.alone.new.group c.begin.new.lows c.begin.new.flags c.begin.new.parents c.begin.new.joins

begun : (c : After-begin)
    → AsLong (given (goal.at.After-begin c).Start) (left c)
begun c =
    record {
      group_long = c.alone.auto.group;
      lows_long = c.begin.auto.lows;
      flags_long = c.begin.auto.flags;
      parents_long = c.begin.auto.parents;
      joins_long = c.begin.auto.joins;
    }

pub join_pairs-requires : goal.join_pairs-requires
join_pairs-requires c =
    let at-place = (goal.at.join_pairs-requires c).After-begin in
    let a = c.args in
    let b = c.begin.ensures in
    let alone = c.alone.ensures ∙ ap upto c.requires.sized.group_sized in record {
      climbing = c.requires.climbing;
      sized = as_long_sized (begun at-place) c.requires.sized;
      by_index = λ marks. so_far_begun a.w a.heights.now marks (given (goal.at.join_pairs-requires c).Start) (left at-place) alone b.0 b.1 b.2 b.3 a.list.now;
    }

pub returns : goal.returns
returns c =
    let all = c.join_pairs in
    record {
      group = c.join_pairs.new.group;
      lows = c.join_pairs.new.lows;
      sized =
          as_long_sized
          (as_long_then (begun (goal.at.returns c).After-begin)
          (record {
            group_long = c.join_pairs.auto.group;
            lows_long = c.join_pairs.auto.lows;
            flags_long = c.join_pairs.auto.flags;
            parents_long = c.join_pairs.auto.parents;
            joins_long = c.join_pairs.auto.joins;
          }))
          c.requires.sized;
      so_far = all.ensures;
    }
