-- Samples of W-202: tiles, the lakes that are listed of them, and the depths of their outermost lakes, in one table, proved by one theorem.
-- Assumes nothing.
use Rattle.std.specs.Prelude.{[], List, map, ◌∷◌, refl, ◌≡◌, suc, ℕ, negsuc, pos, ℤ, replicate}
use Rattle.grid.specs.Neighbours.{steepness}
use Rattle.lake_rules.specs.Groups.{by_label, groups, labelled, least_of, lower, touches, touches_at}
use Rattle.lake_rules.specs.Lakes.{depth, depth_within, inside, Lake, lake_of, lakes, lakes_of, lakes_within, level_of, outermost, parts}
use Rattle.lake_rules.specs.Lakes.{split_height, volume_of, wet_cells}
use Rattle.lists.specs.Lists.{tab}
use Rattle.rules.specs.Carving.{all_but, carved, far_cell, first_way, leads_out, near_cell, outflows, previous, receiver, receivers}
use Rattle.rules.specs.Chain.{join, joined, labels}
use Rattle.rules.specs.FirstWays.{first_receiver, lower_neighbours, neighbours, singular, singular_of, steepest_of}
use Rattle.rules.specs.Ground.{Ground, lifted}
use Rattle.rules.specs.Land.{Land, land4}
use Rattle.rules.specs.Network.{level, level_within}
use Rattle.rules.specs.Passes.{chosen, crossing_height, crossings, crossings_at, divides, less, less_than, linked, node, passes, same_basins}

pub record Sample : Type 0 where
  pub ground : Ground
  pub listed : List Lake
  pub depths : List ℕ

-- the levels of the network's cells
abbrev levels_of : Land → List ℕ
levels_of L = tab L.cells (level L (receivers L))

abbrev depths_of : Land → List ℕ → List ℕ
depths_of L levels = map (λ s. depth L (level_of levels s) s) (outermost L levels)

-- what a sample says is what the definitions give
abbrev pub Right : Sample → Type 0
Right s =
    (lakes (land4 s.ground) (levels_of (land4 s.ground)) ≡ s.listed)
    × (depths_of (land4 s.ground) (levels_of (land4 s.ground)) ≡ s.depths)

abbrev pub AllRight : List Sample → Type 0
AllRight [] = Unit {0}
AllRight (s ∷ ss) = Right s × AllRight ss

-- a tile with an outlet in its first cell
abbrev from_first : ℕ → ℕ → List ℤ → ℕ → Ground
from_first w h heights others =
    record { width = w; height = h; heights = heights; marks = 1 ∷ replicate others 0; water = replicate (suc others) 1 }

-- heights that aren't negative
abbrev plain : List ℕ → List ℤ
plain l = map pos l

-- level, number of cells, volume and least cell
abbrev lake : ℤ → ℕ → ℕ → ℕ → Lake
lake l c v a = record { level = lifted l; count = c; volume = v; least = a }

-- lakes inside a lake inside a lake
abbrev pub nested : Sample
nested =
    record {
      ground = from_first 7 1 (plain (9 ∷ 1 ∷ 5 ∷ 2 ∷ 7 ∷ 0 ∷ 10 ∷ [])) 6;
      listed = lake (pos 5) 1 4 1 ∷ lake (pos 5) 1 3 3 ∷ lake (pos 7) 3 13 1 ∷ lake (pos 7) 1 7 5 ∷ lake (pos 9) 5 30 1 ∷ [];
      depths = 3 ∷ [];
    }

-- two outermost lakes at two levels; the highest cell of the first is in no lake inside
abbrev pub two : Sample
two =
    record {
      ground =
          record {
            width = 5;
            height = 3;
            heights = plain (9 ∷ 8 ∷ 9 ∷ 9 ∷ 9 ∷ 1 ∷ 5 ∷ 2 ∷ 9 ∷ 3 ∷ 9 ∷ 5 ∷ 9 ∷ 9 ∷ 9 ∷ []);
            marks = 0 ∷ 1 ∷ replicate 13 0;
            water = replicate 15 1;
          };
      listed = lake (pos 5) 1 4 5 ∷ lake (pos 5) 1 3 7 ∷ lake (pos 8) 4 19 5 ∷ lake (pos 9) 1 6 9 ∷ [];
      depths = 2 ∷ 1 ∷ [];
    }

-- three groups at one height
abbrev pub three : Sample
three =
    record {
      ground = from_first 6 1 (plain (8 ∷ 1 ∷ 5 ∷ 2 ∷ 5 ∷ 3 ∷ [])) 5;
      listed = lake (pos 5) 1 4 1 ∷ lake (pos 5) 1 3 3 ∷ lake (pos 5) 1 2 5 ∷ lake (pos 8) 5 24 1 ∷ [];
      depths = 2 ∷ [];
    }

-- five groups at one height
abbrev pub five : Sample
five =
    record {
      ground =
          record {
            width = 4;
            height = 4;
            heights = plain (9 ∷ 9 ∷ 9 ∷ 9 ∷ 7 ∷ 1 ∷ 6 ∷ 2 ∷ 9 ∷ 6 ∷ 5 ∷ 6 ∷ 9 ∷ 3 ∷ 6 ∷ 0 ∷ []);
            marks = 0 ∷ 0 ∷ 0 ∷ 0 ∷ 1 ∷ replicate 11 0;
            water = replicate 16 1;
          };
      listed =
          lake (pos 6) 1 5 5 ∷ lake (pos 6) 1 4 7 ∷ lake (pos 6) 1 1 10 ∷ lake (pos 6) 1 3 13 ∷ lake (pos 6) 1 6 15 ∷ lake (pos 7) 9 28 5 ∷ [];
      depths = 2 ∷ [];
    }

-- a group that reaches around another: the smaller least cell comes first, not the smaller greatest
abbrev pub around : Sample
around =
    record {
      ground = from_first 3 3 (plain (7 ∷ 1 ∷ 1 ∷ 0 ∷ 5 ∷ 1 ∷ 5 ∷ 1 ∷ 1 ∷ [])) 8;
      listed = lake (pos 5) 5 20 1 ∷ lake (pos 5) 1 5 3 ∷ lake (pos 7) 8 41 1 ∷ [];
      depths = 2 ∷ [];
    }

-- a lake of one cell
abbrev pub single : Sample
single = record { ground = from_first 3 1 (plain (5 ∷ 0 ∷ 9 ∷ [])) 2; listed = lake (pos 5) 1 5 1 ∷ []; depths = 1 ∷ [] }

-- a meadow beside a lake: level ground at the lake's level is dry
abbrev pub meadow : Sample
meadow =
    record {
      ground = from_first 4 2 (plain (3 ∷ 3 ∷ 3 ∷ 3 ∷ 3 ∷ 1 ∷ 3 ∷ 3 ∷ [])) 7;
      listed = lake (pos 3) 1 2 5 ∷ [];
      depths = 1 ∷ [];
    }

-- two lakes that touch at a corner are two
abbrev pub corner : Sample
corner =
    record {
      ground = from_first 3 3 (plain (5 ∷ 5 ∷ 5 ∷ 5 ∷ 1 ∷ 5 ∷ 5 ∷ 5 ∷ 2 ∷ [])) 8;
      listed = lake (pos 5) 1 4 4 ∷ lake (pos 5) 1 3 8 ∷ [];
      depths = 1 ∷ 1 ∷ [];
    }

-- no lake at all
abbrev pub dry : Sample
dry = record { ground = from_first 2 2 (plain (0 ∷ 1 ∷ 1 ∷ 2 ∷ [])) 3; listed = []; depths = [] }

-- heights below 0, down to the lowest: -1, -5, -3, -8,000,000 and 2
abbrev pub low : Sample
low =
    record {
      ground = from_first 5 1 (negsuc 0 ∷ negsuc 4 ∷ negsuc 2 ∷ negsuc 7999999 ∷ pos 2 ∷ []) 4;
      listed = lake (negsuc 2) 1 2 1 ∷ lake (negsuc 2) 1 7999997 3 ∷ lake (negsuc 0) 3 8000005 1 ∷ [];
      depths = 2 ∷ [];
    }

-- the single table
abbrev pub samples : List Sample
samples = nested ∷ two ∷ three ∷ five ∷ around ∷ single ∷ meadow ∷ corner ∷ dry ∷ low ∷ []

-- every sample is what the definitions give
pub samples_right : AllRight samples
unfolding lakes lakes_of lakes_within lake_of volume_of depth depth_within inside split_height parts outermost wet_cells groups by_label least_of
    labelled lower touches touches_at level level_within receivers receiver carved previous first_way outflows leads_out near_cell
    far_cell all_but chosen less_than linked node passes same_basins less crossing_height crossings crossings_at divides join joined
    labels first_receiver lower_neighbours neighbours singular singular_of steepness steepest_of
samples_right = (
  (refl, refl),
  ((refl, refl), ((refl, refl), ((refl, refl), ((refl, refl), ((refl, refl), ((refl, refl), ((refl, refl), ((refl, refl), ((refl, refl), tt))))))))),
)
