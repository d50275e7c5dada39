-- The loop that lists the wet cells: after c cells the wet ones among them stand at the start, and the rest is as it was.
-- Assumes nothing.
use mathlib.Core.Bool.{Bool, cond}
use mathlib.Core.List.{[], append-nil, List, ◌++◌, ◌∷◌}
use mathlib.Core.Path.{ap, refl, sym, ◌∙◌, ◌≡◌}
use Prim.Native.Nat.{ℕ, ◌+◌, ◌<◌, ◌≤◌}
use native.Mathlib.Nat.{zero-add}
use native.Mathlib.Omega.{arith}
use lib.ListN.{drop, length, length-append, length-set, set}
use borrow.Author.Tests.{le-ltb, lt-ltb}
use Rattle.lake_notes.specs.WetPairs.{wet_below}
use Rattle.lake_rules.specs.Lakes.{wet_cells}
use Rattle.lists.proofs.Keep.{keep_append}
use Rattle.lists.proofs.Overwrite.{overwrite-is, overwrite_put}
use Rattle.lists.proofs.Range.{range_split}
use Rattle.lists.specs.Lists.{at, keep, overwrite, range, upto}
use Rattle.rules.specs.Land.{rule4}
use Rattle.rules.specs.Network.{is_wet}
use Rattle.rules.specs.Tile.{tile_land}

module _ (heights levels : List ℕ) where
  abbrev wet_at : ℕ → Bool
  wet_at d = is_wet (at heights d) (at levels d)

  -- the cells after c more
  wet-next : (c : ℕ) → wet_below heights levels (c + 1) ≡ wet_below heights levels c ++ cond (wet_at c) (c ∷ []) []
  unfolding wet_below
  wet-next c =
      ap (keep wet_at) (range_split 0 c 1)
      ∙ keep_append wet_at (upto c) (range (0 + c) 1)
      ∙ ap (λ (z : ℕ). keep wet_at (upto c) ++ cond (wet_at z) (z ∷ []) []) (zero-add c)

  pub record Kept (old cells : List ℕ) (k c : ℕ) : Type 0 where
    pub long : length cells ≡ length old
    pub few : k ≤ c
    pub count : k ≡ length (wet_below heights levels c)
    pub are : cells ≡ overwrite (wet_below heights levels c) old

  pub kept_none : (old : List ℕ) → Kept old old 0 0
  unfolding wet_below
  kept_none old = record { long = refl; few = omega arith; count = refl; are = refl }

  module _ {old cells : List ℕ} {k c : ℕ} (K : Kept old cells k c) where
    pub kept_wet : at heights c < at levels c → k < length old → Kept old (set cells k c) (k + 1) (c + 1)
    kept_wet l room =
        record {
          long = length-set cells k c ∙ K.long;
          few = omega (arith, K.few);
          count = omega (arith, K.count, ap length e, length-append (wet_below heights levels c) (c ∷ []));
          are =
              overwrite-is (wet_below heights levels (c + 1)) old (k + 1)
              (omega (arith, K.count, ap length e, length-append (wet_below heights levels c) (c ∷ [])))
              (ap (λ (z : List ℕ). set z k c) (K.are ∙ ap (λ (z : ℕ). wet_below heights levels c ++ drop z old) (sym K.count))
              ∙ overwrite_put (wet_below heights levels c) old k c (sym K.count) room
              ∙ ap (λ (z : List ℕ). z ++ drop (k + 1) old) (sym e));
        }
      where
        e : wet_below heights levels (c + 1) ≡ wet_below heights levels c ++ (c ∷ [])
        e = wet-next c ∙ rw (lt-ltb (at heights c) (at levels c) l)

    pub kept_dry : at levels c ≤ at heights c → Kept old cells k (c + 1)
    kept_dry l = record { long = K.long; few = omega (arith, K.few); count = rw e K.count; are = rw e K.are }
      where
        e : wet_below heights levels (c + 1) ≡ wet_below heights levels c
        e = wet-next c ∙ rw (le-ltb (at heights c) (at levels c) l) (append-nil (wet_below heights levels c))

    -- all cells
    pub kept_all : c ≡ length heights
        → (k ≡ length (wet_below heights levels (length heights))) × (cells ≡ overwrite (wet_below heights levels (length heights)) old)
    kept_all e = (rw (← e) K.count, rw (← e) K.are)

-- the wet cells of the tile, with any marks
pub wet_below_lem : (w : ℕ) (heights levels marks : List ℕ) → wet_below heights levels (length heights) ≡ wet_cells (tile_land rule4 w heights marks) levels
unfolding wet_below wet_cells
wet_below_lem w heights levels marks = refl
