-- Samples of W-205: tiles with their networks in both manners, carved and as a sheet, in one table, proved by one theorem. A star marks an
-- outlet.
-- Assumes nothing.
use Rattle.std.specs.Prelude.{[], List, ◌∷◌, refl, ◌≡◌, ℤ, replicate}
use Rattle.grid.specs.Neighbours.{steepness}
use Rattle.rules.specs.Carving.{all_but, carved, far_cell, first_way, leads_out, near_cell, outflows, previous, receiver}
use Rattle.rules.specs.Carving.{receivers}
use Rattle.rules.specs.Chain.{join, joined, labels}
use Rattle.rules.specs.FirstWays.{basin, first_receiver, lower_neighbours, neighbours, singular, singular_of, solid_cells}
use Rattle.rules.specs.FirstWays.{steepest_of}
use Rattle.rules.specs.Ground.{Ground}
use Rattle.rules.specs.Network.{above, drainage, givers, level, level_within, lifted_network_in, Network, network_by}
use Rattle.rules.specs.Network.{order, outlets, through, wet}
use Rattle.rules.specs.Passes.{chosen, crossing_height, crossings, crossings_at, divides, less, less_than, linked, node}
use Rattle.rules.specs.Passes.{passes, same_basins}
use Rattle.rules.specs.Samples.{ground, plain}
use Rattle.rules.specs.Sheet.{count, ends_count, falls, level_step, sheet_receiver, sheet_receivers}
use Rattle.rules.specs.SixLists.{six_lists}
use Rattle.spread.specs.Steps.{fewest, within}
use Rattle.grid.specs.declared.Neighbours.{Neighbours}
use Rattle.grid.specs.declared.Neighbours.TheVariants.{Eight, Four}
use Rattle.rules.specs.declared.Manner.TheVariants.{Carve, Sheet}

pub record Sample : Type 0 where
  pub over : Neighbours
  pub tile : Ground
  pub as_carved : Network ℤ
  pub as_sheet : Network ℤ

-- what a sample says is what the definitions give
abbrev pub Right : Sample → Type 0
Right s = (network_by s.over Carve s.tile ≡ s.as_carved) × (network_by s.over Sheet s.tile ≡ s.as_sheet)

abbrev pub AllRight : List Sample → Type 0
AllRight [] = Unit {0}
AllRight (s ∷ ss) = Right s × AllRight ss

-- a plateau with two ends: cell 2 is one step from cell 1 and one step from cell 3, and goes to the lesser number in both manners
--   0* 5 5 5 0*
abbrev pub two_ends : Sample
two_ends =
    record {
      over = Four;
      tile = ground 5 1 (plain (0 ∷ 5 ∷ 5 ∷ 5 ∷ 0 ∷ [])) (1 ∷ 0 ∷ 0 ∷ 0 ∷ 1 ∷ []) (replicate 5 1);
      as_carved = in_both;
      as_sheet = in_both;
    }
  where
    in_both : Network ℤ
    in_both =
        six_lists
        (0 ∷ 0 ∷ 1 ∷ 4 ∷ 4 ∷ [])
        (0 ∷ 0 ∷ 1 ∷ 2 ∷ 2 ∷ [])
        (0 ∷ 1 ∷ 2 ∷ 4 ∷ 3 ∷ [])
        (plain (0 ∷ 5 ∷ 5 ∷ 5 ∷ 0 ∷ []))
        (3 ∷ 2 ∷ 1 ∷ 1 ∷ 2 ∷ [])
        (0 ∷ 0 ∷ 0 ∷ 0 ∷ 0 ∷ [])

-- the nearer end: cell 3 goes to cell 4, which has a lower neighbour. Carved, it goes over the lesser crossing to cell 2
--   0* 5 5 5 5 0*
abbrev pub nearer_end : Sample
nearer_end =
    record {
      over = Four;
      tile = ground 6 1 (plain (0 ∷ 5 ∷ 5 ∷ 5 ∷ 5 ∷ 0 ∷ [])) (1 ∷ 0 ∷ 0 ∷ 0 ∷ 0 ∷ 1 ∷ []) (replicate 6 1);
      as_carved = six_lists
          (0 ∷ 0 ∷ 1 ∷ 2 ∷ 5 ∷ 5 ∷ [])
          (0 ∷ 0 ∷ 1 ∷ 2 ∷ 3 ∷ 3 ∷ [])
          (0 ∷ 1 ∷ 2 ∷ 3 ∷ 5 ∷ 4 ∷ [])
          (plain (0 ∷ 5 ∷ 5 ∷ 5 ∷ 5 ∷ 0 ∷ []))
          (4 ∷ 3 ∷ 2 ∷ 1 ∷ 1 ∷ 2 ∷ [])
          (0 ∷ 0 ∷ 0 ∷ 0 ∷ 0 ∷ 0 ∷ []);
      as_sheet = six_lists
          (0 ∷ 0 ∷ 1 ∷ 4 ∷ 5 ∷ 5 ∷ [])
          (0 ∷ 0 ∷ 1 ∷ 2 ∷ 3 ∷ 3 ∷ [])
          (0 ∷ 1 ∷ 2 ∷ 5 ∷ 4 ∷ 3 ∷ [])
          (plain (0 ∷ 5 ∷ 5 ∷ 5 ∷ 5 ∷ 0 ∷ []))
          (3 ∷ 2 ∷ 1 ∷ 1 ∷ 2 ∷ 3 ∷ [])
          (0 ∷ 0 ∷ 0 ∷ 0 ∷ 0 ∷ 0 ∷ []);
    }

-- a plateau with an outlet inside: a side goes to it, a corner to the side with the lesser number
--   0 0  0
--   0 0* 0
--   0 0  0
abbrev pub inner_outlet : Sample
inner_outlet =
    record {
      over = Four;
      tile = ground 3 3 (plain (0 ∷ 0 ∷ 0 ∷ 0 ∷ 0 ∷ 0 ∷ 0 ∷ 0 ∷ 0 ∷ [])) (0 ∷ 0 ∷ 0 ∷ 0 ∷ 1 ∷ 0 ∷ 0 ∷ 0 ∷ 0 ∷ []) (replicate 9 1);
      as_carved = six_lists
          (1 ∷ 4 ∷ 1 ∷ 0 ∷ 4 ∷ 2 ∷ 3 ∷ 4 ∷ 5 ∷ [])
          (0 ∷ 1 ∷ 2 ∷ 3 ∷ 4 ∷ 5 ∷ 6 ∷ 7 ∷ 8 ∷ [])
          (4 ∷ 1 ∷ 0 ∷ 3 ∷ 6 ∷ 2 ∷ 5 ∷ 8 ∷ 7 ∷ [])
          (plain (0 ∷ 0 ∷ 0 ∷ 0 ∷ 0 ∷ 0 ∷ 0 ∷ 0 ∷ 0 ∷ []))
          (3 ∷ 7 ∷ 3 ∷ 2 ∷ 9 ∷ 2 ∷ 1 ∷ 1 ∷ 1 ∷ [])
          (0 ∷ 0 ∷ 0 ∷ 0 ∷ 0 ∷ 0 ∷ 0 ∷ 0 ∷ 0 ∷ []);
      as_sheet = six_lists
          (1 ∷ 4 ∷ 1 ∷ 4 ∷ 4 ∷ 4 ∷ 3 ∷ 4 ∷ 5 ∷ [])
          (0 ∷ 1 ∷ 2 ∷ 3 ∷ 4 ∷ 5 ∷ 6 ∷ 7 ∷ 8 ∷ [])
          (4 ∷ 1 ∷ 0 ∷ 2 ∷ 3 ∷ 6 ∷ 5 ∷ 8 ∷ 7 ∷ [])
          (plain (0 ∷ 0 ∷ 0 ∷ 0 ∷ 0 ∷ 0 ∷ 0 ∷ 0 ∷ 0 ∷ []))
          (1 ∷ 3 ∷ 1 ∷ 2 ∷ 9 ∷ 2 ∷ 1 ∷ 1 ∷ 1 ∷ [])
          (0 ∷ 0 ∷ 0 ∷ 0 ∷ 0 ∷ 0 ∷ 0 ∷ 0 ∷ 0 ∷ []);
    }

-- an outlet of another level ends no count: cells 1 and 3 stand beside outlet 4, and go the longer way round it to outlet 8
--   4 4  4
--   4 9* 4
--   4 4  0*
abbrev pub higher_outlet : Sample
higher_outlet =
    record {
      over = Four;
      tile = ground 3 3 (plain (4 ∷ 4 ∷ 4 ∷ 4 ∷ 9 ∷ 4 ∷ 4 ∷ 4 ∷ 0 ∷ [])) (0 ∷ 0 ∷ 0 ∷ 0 ∷ 1 ∷ 0 ∷ 0 ∷ 0 ∷ 1 ∷ []) (replicate 9 1);
      as_carved = six_lists
          (1 ∷ 2 ∷ 5 ∷ 0 ∷ 4 ∷ 8 ∷ 3 ∷ 8 ∷ 8 ∷ [])
          (0 ∷ 1 ∷ 2 ∷ 3 ∷ 4 ∷ 6 ∷ 5 ∷ 6 ∷ 6 ∷ [])
          (4 ∷ 8 ∷ 5 ∷ 2 ∷ 1 ∷ 0 ∷ 3 ∷ 6 ∷ 7 ∷ [])
          (plain (4 ∷ 4 ∷ 4 ∷ 4 ∷ 9 ∷ 4 ∷ 4 ∷ 4 ∷ 0 ∷ []))
          (3 ∷ 4 ∷ 5 ∷ 2 ∷ 1 ∷ 6 ∷ 1 ∷ 1 ∷ 8 ∷ [])
          (0 ∷ 0 ∷ 0 ∷ 0 ∷ 0 ∷ 0 ∷ 0 ∷ 0 ∷ 0 ∷ []);
      as_sheet = six_lists
          (1 ∷ 2 ∷ 5 ∷ 6 ∷ 4 ∷ 8 ∷ 7 ∷ 8 ∷ 8 ∷ [])
          (0 ∷ 1 ∷ 2 ∷ 3 ∷ 4 ∷ 6 ∷ 5 ∷ 6 ∷ 6 ∷ [])
          (4 ∷ 8 ∷ 5 ∷ 2 ∷ 1 ∷ 0 ∷ 7 ∷ 6 ∷ 3 ∷ [])
          (plain (4 ∷ 4 ∷ 4 ∷ 4 ∷ 9 ∷ 4 ∷ 4 ∷ 4 ∷ 0 ∷ []))
          (1 ∷ 2 ∷ 3 ∷ 1 ∷ 1 ∷ 4 ∷ 2 ∷ 3 ∷ 8 ∷ [])
          (0 ∷ 0 ∷ 0 ∷ 0 ∷ 0 ∷ 0 ∷ 0 ∷ 0 ∷ 0 ∷ []);
    }

-- a lake behind a sill: cells 4, 5 and 7 are under water up to 3, the height of cell 1, and count their steps to it. Cell 2 has two neighbours of
-- level 3, and goes to cell 1; carved, it goes to cell 5, whose ground is lower
--   0* 3 9
--   9  1 2
--   9  2 9
abbrev pub behind_sill : Sample
behind_sill =
    record {
      over = Four;
      tile = ground 3 3 (plain (0 ∷ 3 ∷ 9 ∷ 9 ∷ 1 ∷ 2 ∷ 9 ∷ 2 ∷ 9 ∷ [])) (1 ∷ 0 ∷ 0 ∷ 0 ∷ 0 ∷ 0 ∷ 0 ∷ 0 ∷ 0 ∷ []) (replicate 9 1);
      as_carved = six_lists
          (0 ∷ 0 ∷ 5 ∷ 0 ∷ 1 ∷ 4 ∷ 7 ∷ 4 ∷ 5 ∷ [])
          (0 ∷ 0 ∷ 1 ∷ 0 ∷ 1 ∷ 1 ∷ 1 ∷ 1 ∷ 1 ∷ [])
          (0 ∷ 1 ∷ 4 ∷ 5 ∷ 2 ∷ 8 ∷ 7 ∷ 6 ∷ 3 ∷ [])
          (plain (0 ∷ 3 ∷ 9 ∷ 9 ∷ 3 ∷ 3 ∷ 9 ∷ 3 ∷ 9 ∷ []))
          (9 ∷ 7 ∷ 1 ∷ 1 ∷ 6 ∷ 3 ∷ 1 ∷ 2 ∷ 1 ∷ [])
          (0 ∷ 0 ∷ 0 ∷ 0 ∷ 1 ∷ 1 ∷ 0 ∷ 1 ∷ 0 ∷ []);
      as_sheet = six_lists
          (0 ∷ 0 ∷ 1 ∷ 0 ∷ 1 ∷ 4 ∷ 7 ∷ 4 ∷ 5 ∷ [])
          (0 ∷ 0 ∷ 1 ∷ 0 ∷ 1 ∷ 1 ∷ 1 ∷ 1 ∷ 1 ∷ [])
          (0 ∷ 1 ∷ 2 ∷ 4 ∷ 5 ∷ 8 ∷ 7 ∷ 6 ∷ 3 ∷ [])
          (plain (0 ∷ 3 ∷ 9 ∷ 9 ∷ 3 ∷ 3 ∷ 9 ∷ 3 ∷ 9 ∷ []))
          (9 ∷ 7 ∷ 1 ∷ 1 ∷ 5 ∷ 2 ∷ 1 ∷ 2 ∷ 1 ∷ [])
          (0 ∷ 0 ∷ 0 ∷ 0 ∷ 1 ∷ 1 ∷ 0 ∷ 1 ∷ 0 ∷ []);
    }

-- a tie of lowest levels: cell 2 goes to cell 1 and not to cell 3, whose level is the same and whose ground is lower
--   3* 2 9 1 3*
abbrev pub between_lakes : Sample
between_lakes =
    record {
      over = Four;
      tile = ground 5 1 (plain (3 ∷ 2 ∷ 9 ∷ 1 ∷ 3 ∷ [])) (1 ∷ 0 ∷ 0 ∷ 0 ∷ 1 ∷ []) (replicate 5 1);
      as_carved = six_lists
          (0 ∷ 0 ∷ 3 ∷ 4 ∷ 4 ∷ [])
          (0 ∷ 1 ∷ 2 ∷ 2 ∷ 3 ∷ [])
          (0 ∷ 1 ∷ 4 ∷ 3 ∷ 2 ∷ [])
          (plain (3 ∷ 3 ∷ 9 ∷ 3 ∷ 3 ∷ []))
          (2 ∷ 1 ∷ 1 ∷ 2 ∷ 3 ∷ [])
          (0 ∷ 1 ∷ 0 ∷ 1 ∷ 0 ∷ []);
      as_sheet = six_lists
          (0 ∷ 0 ∷ 1 ∷ 4 ∷ 4 ∷ [])
          (0 ∷ 1 ∷ 2 ∷ 2 ∷ 3 ∷ [])
          (0 ∷ 1 ∷ 2 ∷ 4 ∷ 3 ∷ [])
          (plain (3 ∷ 3 ∷ 9 ∷ 3 ∷ 3 ∷ []))
          (3 ∷ 2 ∷ 1 ∷ 1 ∷ 2 ∷ [])
          (0 ∷ 1 ∷ 0 ∷ 1 ∷ 0 ∷ []);
    }

-- the lowest, and not the steepest: with 8 neighbours cell 3 goes over the corner to outlet 0; carved, it goes to cell 1
--   0* 2
--   2  7
abbrev pub lowest_not_steepest : Sample
lowest_not_steepest =
    record {
      over = Eight;
      tile = ground 2 2 (plain (0 ∷ 2 ∷ 2 ∷ 7 ∷ [])) (1 ∷ 0 ∷ 0 ∷ 0 ∷ []) (replicate 4 1);
      as_carved = six_lists
          (0 ∷ 0 ∷ 0 ∷ 1 ∷ [])
          (0 ∷ 0 ∷ 0 ∷ 0 ∷ [])
          (0 ∷ 1 ∷ 3 ∷ 2 ∷ [])
          (plain (0 ∷ 2 ∷ 2 ∷ 7 ∷ []))
          (4 ∷ 2 ∷ 1 ∷ 1 ∷ [])
          (0 ∷ 0 ∷ 0 ∷ 0 ∷ []);
      as_sheet = six_lists
          (0 ∷ 0 ∷ 0 ∷ 0 ∷ [])
          (0 ∷ 0 ∷ 0 ∷ 0 ∷ [])
          (0 ∷ 1 ∷ 2 ∷ 3 ∷ [])
          (plain (0 ∷ 2 ∷ 2 ∷ 7 ∷ []))
          (4 ∷ 1 ∷ 1 ∷ 1 ∷ [])
          (0 ∷ 0 ∷ 0 ∷ 0 ∷ []);
    }

-- level ground with one outlet: each cell is as many steps from it as it is columns and rows away
--   0 0 0
--   0 0 0
--   0 0 0*
abbrev pub level_ground4 : Sample
level_ground4 =
    record {
      over = Four;
      tile = ground 3 3 (plain (0 ∷ 0 ∷ 0 ∷ 0 ∷ 0 ∷ 0 ∷ 0 ∷ 0 ∷ 0 ∷ [])) (0 ∷ 0 ∷ 0 ∷ 0 ∷ 0 ∷ 0 ∷ 0 ∷ 0 ∷ 1 ∷ []) (replicate 9 1);
      as_carved = six_lists
          (1 ∷ 2 ∷ 5 ∷ 0 ∷ 1 ∷ 8 ∷ 3 ∷ 4 ∷ 8 ∷ [])
          (0 ∷ 1 ∷ 2 ∷ 3 ∷ 4 ∷ 5 ∷ 6 ∷ 7 ∷ 8 ∷ [])
          (8 ∷ 5 ∷ 2 ∷ 1 ∷ 0 ∷ 3 ∷ 6 ∷ 4 ∷ 7 ∷ [])
          (plain (0 ∷ 0 ∷ 0 ∷ 0 ∷ 0 ∷ 0 ∷ 0 ∷ 0 ∷ 0 ∷ []))
          (3 ∷ 6 ∷ 7 ∷ 2 ∷ 2 ∷ 8 ∷ 1 ∷ 1 ∷ 9 ∷ [])
          (0 ∷ 0 ∷ 0 ∷ 0 ∷ 0 ∷ 0 ∷ 0 ∷ 0 ∷ 0 ∷ []);
      as_sheet = six_lists
          (1 ∷ 2 ∷ 5 ∷ 4 ∷ 5 ∷ 8 ∷ 7 ∷ 8 ∷ 8 ∷ [])
          (0 ∷ 1 ∷ 2 ∷ 3 ∷ 4 ∷ 5 ∷ 6 ∷ 7 ∷ 8 ∷ [])
          (8 ∷ 5 ∷ 2 ∷ 1 ∷ 0 ∷ 4 ∷ 3 ∷ 7 ∷ 6 ∷ [])
          (plain (0 ∷ 0 ∷ 0 ∷ 0 ∷ 0 ∷ 0 ∷ 0 ∷ 0 ∷ 0 ∷ []))
          (1 ∷ 2 ∷ 3 ∷ 1 ∷ 2 ∷ 6 ∷ 1 ∷ 2 ∷ 9 ∷ [])
          (0 ∷ 0 ∷ 0 ∷ 0 ∷ 0 ∷ 0 ∷ 0 ∷ 0 ∷ 0 ∷ []);
    }

-- the same ground with 8 neighbours: no cell is more than two steps away
--   0 0 0
--   0 0 0
--   0 0 0*
abbrev pub level_ground8 : Sample
level_ground8 =
    record {
      over = Eight;
      tile = ground 3 3 (plain (0 ∷ 0 ∷ 0 ∷ 0 ∷ 0 ∷ 0 ∷ 0 ∷ 0 ∷ 0 ∷ [])) (0 ∷ 0 ∷ 0 ∷ 0 ∷ 0 ∷ 0 ∷ 0 ∷ 0 ∷ 1 ∷ []) (replicate 9 1);
      as_carved = six_lists
          (4 ∷ 0 ∷ 1 ∷ 0 ∷ 8 ∷ 1 ∷ 3 ∷ 3 ∷ 8 ∷ [])
          (0 ∷ 1 ∷ 2 ∷ 3 ∷ 4 ∷ 5 ∷ 6 ∷ 7 ∷ 8 ∷ [])
          (8 ∷ 4 ∷ 0 ∷ 1 ∷ 2 ∷ 5 ∷ 3 ∷ 6 ∷ 7 ∷ [])
          (plain (0 ∷ 0 ∷ 0 ∷ 0 ∷ 0 ∷ 0 ∷ 0 ∷ 0 ∷ 0 ∷ []))
          (7 ∷ 3 ∷ 1 ∷ 3 ∷ 8 ∷ 1 ∷ 1 ∷ 1 ∷ 9 ∷ [])
          (0 ∷ 0 ∷ 0 ∷ 0 ∷ 0 ∷ 0 ∷ 0 ∷ 0 ∷ 0 ∷ []);
      as_sheet = six_lists
          (4 ∷ 4 ∷ 4 ∷ 4 ∷ 8 ∷ 8 ∷ 4 ∷ 8 ∷ 8 ∷ [])
          (0 ∷ 1 ∷ 2 ∷ 3 ∷ 4 ∷ 5 ∷ 6 ∷ 7 ∷ 8 ∷ [])
          (8 ∷ 4 ∷ 0 ∷ 1 ∷ 2 ∷ 3 ∷ 6 ∷ 5 ∷ 7 ∷ [])
          (plain (0 ∷ 0 ∷ 0 ∷ 0 ∷ 0 ∷ 0 ∷ 0 ∷ 0 ∷ 0 ∷ []))
          (1 ∷ 1 ∷ 1 ∷ 1 ∷ 6 ∷ 1 ∷ 1 ∷ 1 ∷ 9 ∷ [])
          (0 ∷ 0 ∷ 0 ∷ 0 ∷ 0 ∷ 0 ∷ 0 ∷ 0 ∷ 0 ∷ []);
    }

-- the single table
abbrev pub samples : List Sample
samples =
    two_ends ∷ nearer_end ∷ inner_outlet ∷ higher_outlet ∷ behind_sill ∷ between_lakes ∷ lowest_not_steepest ∷ level_ground4 ∷ level_ground8 ∷ []

-- every sample is what the definitions give
pub sheet_samples_right : AllRight samples
unfolding network_by lifted_network_in solid_cells neighbours lower_neighbours steepness steepest_of first_receiver singular
    singular_of basin divides crossings_at crossings crossing_height less same_basins passes node linked join labels
    joined less_than chosen all_but far_cell near_cell leads_out outflows first_way previous carved receiver receivers
    level_within level givers above outlets order through drainage wet falls ends_count within fewest count level_step
    sheet_receiver sheet_receivers
sheet_samples_right =
    ((refl, refl), ((refl, refl), ((refl, refl), ((refl, refl), ((refl, refl), ((refl, refl), ((refl, refl), ((refl, refl), ((refl, refl), tt)))))))))
