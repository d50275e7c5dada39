-- Where of two ways down the one to the lower cell is the steeper, all places of a rule are of one kind: so the least of the keys at all of them
-- leads to the lowest neighbour, and is its mask. And on the land of levels over a tile's land rule 1 finds that neighbour.
-- Assumes nothing.
use mathlib.Core.Bool.{cond}
use mathlib.Core.List.{List}
use mathlib.Core.Path.{refl, ◌≡◌}
use Prim.Native.Nat.{ℕ, ◌%◌, ◌-◌, ◌<◌, ◌≤◌}
use native.Mathlib.Omega.{arith}
use lib.ListN.{length}
use Rattle.first_receivers.proofs.LeastKeys.{least_of_fact}
use Rattle.first_receivers.proofs.OneKind.{kind_placed, OneKind}
use Rattle.first_receivers.proofs.Taken.{or_cell, or_side}
use Rattle.first_receivers.proofs.Weighing.{placed_mask}
use Rattle.first_receivers.proofs.Winners.{Ways}
use Rattle.first_receivers.specs.Weights.{first_is, itself, least_key, Placed}
use Rattle.grid.proofs.Rules.{places-around, rule_by_lem}
use Rattle.grid.specs.Masks.{mask_of}
use Rattle.grid.specs.Neighbours.{places_by}
use Rattle.grid.specs.Window.{around, cell_or, Rows}
use Rattle.lists.proofs.Tests.{is, isnt, Known, known, same_ltb}
use Rattle.lists.specs.Lists.{at}
use Rattle.lowest.specs.Lowest.{lowest_rule}
use Rattle.rules.proofs.FirstReceivers.{first_outlet}
use Rattle.rules.specs.FirstWays.{first_receiver}
use Rattle.rules.specs.Ground.{is_outlet}
use Rattle.rules.specs.Land.{Land, rule_by}
use Rattle.rules.specs.Sheet.{level_land}
use Rattle.rules.specs.Tile.{tile_land}
use Rattle.grid.specs.declared.Neighbours.{Neighbours}

module _ (N : Neighbours) (w : ℕ) (levels marks : List ℕ) (G : Rows w (length levels)) (low : (d : ℕ) → at levels d ≤ 16000000) (c : ℕ)
    (on : c < length levels) where
  abbrev n : ℕ
  n = length levels

  abbrev L : Land
  L = tile_land (lowest_rule N) w levels marks

  -- the slope of a way down: how far below the highest level it leads
  abbrev slope : ℕ → ℕ → ℕ
  slope p d = 16000000 - at levels d

  ways : Ways (lowest_rule N) w levels c slope
  ways =
      record {
        is_rule = rule_by_lem N;
        whole = λ mark. refl;
        rows = G;
        by_slope = λ a b.
            let u = low a in let v = low b in
            same_ltb (at levels a) (at levels b) (16000000 - at levels b) (16000000 - at levels a) (λ l. omega arith) (λ l. omega arith);
      }

  one_kind : OneKind w levels c slope (cell_or w n c) (places_by N)
  one_kind =
      record {
        near = places-around (rule_by_lem N);
        real = λ p d m S. or_cell G on p d S;
        no_lower = λ q d p e i m l. omega arith;
        lower = λ q d p e i m f l. let u = low c in omega arith;
      }

  abbrev least : ℕ
  least = least_key levels (cell_or w n c) c (places_by N)

  least_placed : Known (is_outlet marks c) → Placed N w n c (first_receiver L c) (cond (is_outlet marks c) 0 (least % 256))
  least_placed (is t) = rw t (itself (first_outlet L c t) refl)
  least_placed (isnt t) =
      rw t
      (kind_placed marks ways t (cell_or w n c) one_kind N (λ p m. m) (λ p m. or_side G on p ((rule_by_lem N).within p m))
      (least_of_fact levels c (cell_or w n c) (places_by N)))

  pub least_mask : mask_of around w n (first_is L) c ≡ cond (is_outlet marks c) 0 (least % 256)
  least_mask = placed_mask N w n c G (first_receiver L) (cond (is_outlet marks c) 0 (least % 256)) (least_placed (known (is_outlet marks c)))

-- the land of levels over a tile's land has the same lowest neighbours
pub level-first : (N : Neighbours) (w : ℕ) (heights levels marks : List ℕ) → length levels ≡ length heights → (c : ℕ)
    → first_receiver (level_land (tile_land (rule_by N) w heights marks) levels) c ≡ first_receiver (tile_land (lowest_rule N) w levels marks) c
level-first N w heights levels marks e c = rw e
