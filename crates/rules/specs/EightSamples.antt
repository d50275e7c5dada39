-- Samples of W-203: tiles with their networks over 4 and over 8 neighbours, in one table, proved by one theorem. The drops at which a straight
-- and a diagonal way are closest are in crate grid (`specs/Samples.antt`).
-- Assumes nothing.
use Rattle.std.specs.Prelude.{[], List, ◌∷◌, refl, ◌≡◌, ℤ, replicate}
use Rattle.grid.specs.Neighbours.{steepness}
use Rattle.rules.specs.Carving.{all_but, carved, far_cell, first_way, leads_out, near_cell, outflows, previous, receiver}
use Rattle.rules.specs.Carving.{receivers}
use Rattle.rules.specs.Chain.{join, joined, labels}
use Rattle.rules.specs.FirstWays.{basin, first_receiver, lower_neighbours, neighbours, singular, singular_of, solid_cells}
use Rattle.rules.specs.FirstWays.{steepest_of}
use Rattle.rules.specs.Ground.{Ground}
use Rattle.rules.specs.Network.{above, drainage, givers, level, level_within, lifted_network_in, Network, network_by}
use Rattle.rules.specs.Network.{order, outlets, through, wet}
use Rattle.rules.specs.Passes.{chosen, crossing_height, crossings, crossings_at, divides, less, less_than, linked, node}
use Rattle.rules.specs.Passes.{passes, same_basins}
use Rattle.rules.specs.Samples.{ground, ground_d, network_d, plain}
use Rattle.rules.specs.SixLists.{six_lists}
use Rattle.grid.specs.declared.Neighbours.TheVariants.{Eight, Four}
use Rattle.rules.specs.declared.Manner.TheVariants.{Carve}

pub record Sample : Type 0 where
  pub tile : Ground
  pub with_4 : Network ℤ
  pub with_8 : Network ℤ

-- what a sample says is what the definitions give
abbrev pub Right : Sample → Type 0
Right s = (network_by Four Carve s.tile ≡ s.with_4) × (network_by Eight Carve s.tile ≡ s.with_8)

abbrev pub AllRight : List Sample → Type 0
AllRight [] = Unit {0}
AllRight (s ∷ ss) = Right s × AllRight ss

-- a shorter way: cell 3 goes by cell 1 with 4 neighbours, and with 8 over the corner to the outlet 0, as 3 times 3 is more than twice 1 times 1
--   0 2
--   2 3
abbrev pub across : Sample
across =
    record {
      tile = ground 2 2 (plain (0 ∷ 2 ∷ 2 ∷ 3 ∷ [])) (1 ∷ 0 ∷ 0 ∷ 0 ∷ []) (replicate 4 1);
      with_4 = six_lists
          (0 ∷ 0 ∷ 0 ∷ 1 ∷ [])
          (0 ∷ 0 ∷ 0 ∷ 0 ∷ [])
          (0 ∷ 1 ∷ 3 ∷ 2 ∷ [])
          (plain (0 ∷ 2 ∷ 2 ∷ 3 ∷ []))
          (4 ∷ 2 ∷ 1 ∷ 1 ∷ [])
          (0 ∷ 0 ∷ 0 ∷ 0 ∷ []);
      with_8 = six_lists
          (0 ∷ 0 ∷ 0 ∷ 0 ∷ [])
          (0 ∷ 0 ∷ 0 ∷ 0 ∷ [])
          (0 ∷ 1 ∷ 2 ∷ 3 ∷ [])
          (plain (0 ∷ 2 ∷ 2 ∷ 3 ∷ []))
          (4 ∷ 1 ∷ 1 ∷ 1 ∷ [])
          (0 ∷ 0 ∷ 0 ∷ 0 ∷ []);
    }

-- the lowest isn't the steepest: from cell 3 the outlet 0 is lower than cell 1, and less steep, as 7 times 7 is 49 and twice 5 times 5 is 50
--   0 2
--   2 7
abbrev pub lowest_not_taken : Sample
lowest_not_taken =
    record {
      tile = ground 2 2 (plain (0 ∷ 2 ∷ 2 ∷ 7 ∷ [])) (1 ∷ 0 ∷ 0 ∷ 0 ∷ []) (replicate 4 1);
      with_4 = by_the_side;
      with_8 = by_the_side;
    }
  where
    by_the_side : Network ℤ
    by_the_side =
        six_lists
        (0 ∷ 0 ∷ 0 ∷ 1 ∷ [])
        (0 ∷ 0 ∷ 0 ∷ 0 ∷ [])
        (0 ∷ 1 ∷ 3 ∷ 2 ∷ [])
        (plain (0 ∷ 2 ∷ 2 ∷ 7 ∷ []))
        (4 ∷ 2 ∷ 1 ∷ 1 ∷ [])
        (0 ∷ 0 ∷ 0 ∷ 0 ∷ [])

-- steeper by 1 the other way: 17 times 17 is 289, and twice 12 times 12 is 288
--   0  5
--   5 17
abbrev pub steeper_by_one : Sample
steeper_by_one =
    record {
      tile = ground 2 2 (plain (0 ∷ 5 ∷ 5 ∷ 17 ∷ [])) (1 ∷ 0 ∷ 0 ∷ 0 ∷ []) (replicate 4 1);
      with_4 = six_lists
          (0 ∷ 0 ∷ 0 ∷ 1 ∷ [])
          (0 ∷ 0 ∷ 0 ∷ 0 ∷ [])
          (0 ∷ 1 ∷ 3 ∷ 2 ∷ [])
          (plain (0 ∷ 5 ∷ 5 ∷ 17 ∷ []))
          (4 ∷ 2 ∷ 1 ∷ 1 ∷ [])
          (0 ∷ 0 ∷ 0 ∷ 0 ∷ []);
      with_8 = six_lists
          (0 ∷ 0 ∷ 0 ∷ 0 ∷ [])
          (0 ∷ 0 ∷ 0 ∷ 0 ∷ [])
          (0 ∷ 1 ∷ 2 ∷ 3 ∷ [])
          (plain (0 ∷ 5 ∷ 5 ∷ 17 ∷ []))
          (4 ∷ 1 ∷ 1 ∷ 1 ∷ [])
          (0 ∷ 0 ∷ 0 ∷ 0 ∷ []);
    }

-- a tie of two diagonals: cell 4 goes to the outlet 2 and not to the outlet 6, which is as steep
--   9 9 1
--   9 5 9
--   1 9 9
abbrev pub two_diagonals : Sample
two_diagonals =
    record {
      tile = ground 3 3 (plain (9 ∷ 9 ∷ 1 ∷ 9 ∷ 5 ∷ 9 ∷ 1 ∷ 9 ∷ 9 ∷ [])) (0 ∷ 0 ∷ 1 ∷ 0 ∷ 0 ∷ 0 ∷ 1 ∷ 0 ∷ 0 ∷ []) (replicate 9 1);
      with_4 = six_lists
          (1 ∷ 2 ∷ 2 ∷ 6 ∷ 1 ∷ 2 ∷ 6 ∷ 6 ∷ 5 ∷ [])
          (0 ∷ 1 ∷ 1 ∷ 3 ∷ 2 ∷ 1 ∷ 3 ∷ 3 ∷ 4 ∷ [])
          (2 ∷ 1 ∷ 0 ∷ 4 ∷ 5 ∷ 8 ∷ 6 ∷ 3 ∷ 7 ∷ [])
          (plain (9 ∷ 9 ∷ 1 ∷ 9 ∷ 9 ∷ 9 ∷ 1 ∷ 9 ∷ 9 ∷ []))
          (1 ∷ 3 ∷ 6 ∷ 1 ∷ 1 ∷ 2 ∷ 3 ∷ 1 ∷ 1 ∷ [])
          (0 ∷ 0 ∷ 0 ∷ 0 ∷ 1 ∷ 0 ∷ 0 ∷ 0 ∷ 0 ∷ []);
      with_8 = six_lists
          (4 ∷ 2 ∷ 2 ∷ 6 ∷ 2 ∷ 2 ∷ 6 ∷ 6 ∷ 4 ∷ [])
          (0 ∷ 0 ∷ 0 ∷ 1 ∷ 0 ∷ 0 ∷ 1 ∷ 1 ∷ 0 ∷ [])
          (2 ∷ 1 ∷ 4 ∷ 0 ∷ 8 ∷ 5 ∷ 6 ∷ 3 ∷ 7 ∷ [])
          (plain (9 ∷ 9 ∷ 1 ∷ 9 ∷ 5 ∷ 9 ∷ 1 ∷ 9 ∷ 9 ∷ []))
          (1 ∷ 1 ∷ 6 ∷ 1 ∷ 3 ∷ 1 ∷ 3 ∷ 1 ∷ 1 ∷ [])
          (0 ∷ 0 ∷ 0 ∷ 0 ∷ 0 ∷ 0 ∷ 0 ∷ 0 ∷ 0 ∷ []);
    }

-- a pit no more: with 4 neighbours cell 3 is one, under water up to 9; with 8 it drains over the corner, and is dry
--   0 9
--   9 3
abbrev pub drained_pit : Sample
drained_pit =
    record {
      tile = ground 2 2 (plain (0 ∷ 9 ∷ 9 ∷ 3 ∷ [])) (1 ∷ 0 ∷ 0 ∷ 0 ∷ []) (replicate 4 1);
      with_4 = six_lists
          (0 ∷ 0 ∷ 0 ∷ 1 ∷ [])
          (0 ∷ 0 ∷ 0 ∷ 1 ∷ [])
          (0 ∷ 1 ∷ 3 ∷ 2 ∷ [])
          (plain (0 ∷ 9 ∷ 9 ∷ 9 ∷ []))
          (4 ∷ 2 ∷ 1 ∷ 1 ∷ [])
          (0 ∷ 0 ∷ 0 ∷ 1 ∷ []);
      with_8 = six_lists
          (0 ∷ 0 ∷ 0 ∷ 0 ∷ [])
          (0 ∷ 0 ∷ 0 ∷ 0 ∷ [])
          (0 ∷ 1 ∷ 2 ∷ 3 ∷ [])
          (plain (0 ∷ 9 ∷ 9 ∷ 3 ∷ []))
          (4 ∷ 1 ∷ 1 ∷ 1 ∷ [])
          (0 ∷ 0 ∷ 0 ∷ 0 ∷ []);
    }

-- diagonals that cross: with 8 neighbours the crossings between 1 and 2, at height 1, and between 0 and 3, at height 6, are the chosen passes.
-- The water of cell 2 goes over the first to cell 1, on to cell 0, and over the second to the outlet 3
--   5 1
--   1 6
abbrev pub crossed_diagonals : Sample
crossed_diagonals =
    record {
      tile = ground 2 2 (plain (5 ∷ 1 ∷ 1 ∷ 6 ∷ [])) (0 ∷ 0 ∷ 0 ∷ 1 ∷ []) (replicate 4 1);
      with_4 = six_lists
          (1 ∷ 3 ∷ 0 ∷ 3 ∷ [])
          (0 ∷ 0 ∷ 1 ∷ 2 ∷ [])
          (3 ∷ 1 ∷ 0 ∷ 2 ∷ [])
          (plain (6 ∷ 6 ∷ 6 ∷ 6 ∷ []))
          (2 ∷ 3 ∷ 1 ∷ 4 ∷ [])
          (1 ∷ 1 ∷ 1 ∷ 0 ∷ []);
      with_8 = six_lists
          (3 ∷ 0 ∷ 1 ∷ 3 ∷ [])
          (0 ∷ 0 ∷ 1 ∷ 2 ∷ [])
          (3 ∷ 0 ∷ 1 ∷ 2 ∷ [])
          (plain (6 ∷ 6 ∷ 6 ∷ 6 ∷ []))
          (3 ∷ 2 ∷ 1 ∷ 4 ∷ [])
          (1 ∷ 1 ∷ 1 ∷ 0 ∷ []);
    }

-- a lower pass: with 8 neighbours the pit 0 drains at height 4, over the corner from cell 1 to cell 5; with 4 at height 8, by cell 2
--   1 4 8
--   8 8 3
--   9 9 0
abbrev pub lower_pass : Sample
lower_pass =
    record {
      tile = ground 3 3 (plain (1 ∷ 4 ∷ 8 ∷ 8 ∷ 8 ∷ 3 ∷ 9 ∷ 9 ∷ 0 ∷ [])) (0 ∷ 0 ∷ 0 ∷ 0 ∷ 0 ∷ 0 ∷ 0 ∷ 0 ∷ 1 ∷ []) (replicate 9 1);
      with_4 = six_lists
          (1 ∷ 2 ∷ 5 ∷ 0 ∷ 5 ∷ 8 ∷ 3 ∷ 8 ∷ 8 ∷ [])
          (0 ∷ 0 ∷ 1 ∷ 0 ∷ 1 ∷ 1 ∷ 0 ∷ 1 ∷ 1 ∷ [])
          (8 ∷ 5 ∷ 2 ∷ 1 ∷ 0 ∷ 3 ∷ 6 ∷ 4 ∷ 7 ∷ [])
          (plain (8 ∷ 8 ∷ 8 ∷ 8 ∷ 8 ∷ 3 ∷ 9 ∷ 9 ∷ 0 ∷ []))
          (3 ∷ 4 ∷ 5 ∷ 2 ∷ 1 ∷ 7 ∷ 1 ∷ 1 ∷ 9 ∷ [])
          (1 ∷ 1 ∷ 0 ∷ 0 ∷ 0 ∷ 0 ∷ 0 ∷ 0 ∷ 0 ∷ []);
      with_8 = six_lists
          (1 ∷ 5 ∷ 5 ∷ 0 ∷ 8 ∷ 8 ∷ 3 ∷ 8 ∷ 8 ∷ [])
          (0 ∷ 0 ∷ 1 ∷ 0 ∷ 1 ∷ 1 ∷ 0 ∷ 1 ∷ 1 ∷ [])
          (8 ∷ 4 ∷ 5 ∷ 1 ∷ 0 ∷ 3 ∷ 6 ∷ 2 ∷ 7 ∷ [])
          (plain (4 ∷ 4 ∷ 8 ∷ 8 ∷ 8 ∷ 3 ∷ 9 ∷ 9 ∷ 0 ∷ []))
          (3 ∷ 4 ∷ 1 ∷ 2 ∷ 1 ∷ 6 ∷ 1 ∷ 1 ∷ 9 ∷ [])
          (1 ∷ 0 ∷ 0 ∷ 0 ∷ 0 ∷ 0 ∷ 0 ∷ 0 ∷ 0 ∷ []);
    }

-- D's ground, all level: every crossing is as high as every other, and their cells alone decide which are chosen
abbrev pub level_ground : Sample
level_ground =
    record {
      tile = ground_d;
      with_4 = network_d;
      with_8 = six_lists
          (0 ∷ 0 ∷ 1 ∷ 0 ∷ 0 ∷ 1 ∷ 3 ∷ 3 ∷ 8 ∷ [])
          (0 ∷ 1 ∷ 2 ∷ 3 ∷ 4 ∷ 5 ∷ 6 ∷ 7 ∷ 8 ∷ [])
          (0 ∷ 1 ∷ 2 ∷ 5 ∷ 3 ∷ 6 ∷ 7 ∷ 4 ∷ 8 ∷ [])
          (plain (0 ∷ 0 ∷ 0 ∷ 0 ∷ 0 ∷ 0 ∷ 0 ∷ 0 ∷ 0 ∷ []))
          (8 ∷ 3 ∷ 1 ∷ 3 ∷ 1 ∷ 1 ∷ 1 ∷ 1 ∷ 1 ∷ [])
          (0 ∷ 0 ∷ 0 ∷ 0 ∷ 0 ∷ 0 ∷ 0 ∷ 0 ∷ 0 ∷ []);
    }

-- the single table
abbrev pub samples : List Sample
samples =
    across ∷ lowest_not_taken ∷ steeper_by_one ∷ two_diagonals ∷ drained_pit ∷ crossed_diagonals ∷ lower_pass ∷ level_ground ∷ []

-- every sample is what the definitions give
pub eight_samples_right : AllRight samples
unfolding network_by lifted_network_in solid_cells neighbours lower_neighbours steepness steepest_of first_receiver singular
    singular_of basin divides crossings_at crossings crossing_height less same_basins passes node linked join labels
    joined less_than chosen all_but far_cell near_cell leads_out outflows first_way previous carved receiver receivers
    level_within level givers above outlets order through drainage wet
eight_samples_right =
    ((refl, refl), ((refl, refl), ((refl, refl), ((refl, refl), ((refl, refl), ((refl, refl), ((refl, refl), ((refl, refl), tt))))))))
