-- Pairs taken one after the other, none lower than one before it: one turn of the loop over them, and what the lists say after all pairs of
-- neighbouring wet cells.
-- Assumes nothing.
use mathlib.Core.List.Memᴰ.{cases_cons as in-cases}
use mathlib.Core.List.Memᴰ.{head as in_head}
use mathlib.Core.List.Memᴰ.{not-nil as in-none}
use mathlib.Core.List.{List}
use mathlib.Core.List.Memᴰ.{tail as in_Tail}
use mathlib.Core.Logic.{inl, inr, ◌⊎◌}
use mathlib.Core.Path.{ap, refl, subst, sym, ◌∙◌, ◌≡◌}
use Prim.Native.Nat.{suc, zero, ℕ, ◌+◌, ◌<◌, ◌≤◌}
use native.Mathlib.Numerals.{add-one}
use native.Mathlib.Nat.{eq-or-lt_of_le}
use native.Mathlib.Omega.{arith}
use lib.ListN.{length}
use Rattle.grid.specs.Window.{Grid}
use Rattle.lake_notes.proofs.Ending.{notes_of}
use Rattle.lake_notes.proofs.Steps.{so_far_next}
use Rattle.lake_notes.proofs.WetPairs.{pairs_touch, touches_paired}
use Rattle.lake_notes.specs.Meeting.{Lists, Met, Sized, SoFar}
use Rattle.lake_notes.specs.WetPairs.{Climbing, met_touches, touch_of, WetClimbing}
use Rattle.lake_rules.proofs.Joining.{Touching}
use Rattle.lake_rules.proofs.WetCells.{wet_on_land}
use Rattle.lake_rules.specs.Groups.{Touch, touches}
use Rattle.lake_rules.specs.Lakes.{wet_cells}
use Rattle.lake_rules.specs.Notes.{Notes}
use Rattle.lake_rules.specs.Passing.{top}
use Rattle.lists.proofs.At.{at_member, at_place}
use Rattle.lists.specs.Lists.{at, ◌∈◌}
use Rattle.pairs.proofs.Pairs.{pair-lesser}
use Rattle.pairs.specs.Pairs.{greater_of, lesser_of}
use Rattle.rules.specs.Land.{Land, rule4}
use Rattle.rules.specs.Tile.{tile_land}

-- the pairs that were taken, by their places
module _ (w : ℕ) (list : List ℕ) where
  met_member : (i : ℕ) {x : Touch} → x ∈ met_touches w list i → (j : ℕ) × (j < i) × (x ≡ touch_of w (at list j))
  met_member zero m = absurd (in-none m)
  met_member (suc i) {x} m = go (in-cases m) (met_member i)
    where
      go : (x ≡ touch_of w (at list i)) ⊎ (x ∈ met_touches w list i)
          → (x ∈ met_touches w list i → (j : ℕ) × (j < i) × (x ≡ touch_of w (at list j)))
          → (j : ℕ) × (j < suc i) × (x ≡ touch_of w (at list j))
      go (inl e) ih = (i, omega arith, e)
      go (inr k) ih = let (j, l, e) = ih k in (j, omega arith, e)

  met_holds : (i j : ℕ) → j < i → touch_of w (at list j) ∈ met_touches w list i
  met_holds zero j l = absurd (omega arith)
  met_holds (suc i) j l = go (eq-or-lt_of_le (let k : j ≤ i = omega arith in k)) (met_holds i j)
    where
      go : (j ≡ i) ⊎ (j < i) → (j < i → touch_of w (at list j) ∈ met_touches w list i) → touch_of w (at list j) ∈ met_touches w list (suc i)
      go (inl e) ih = in_head (ap (λ (k : ℕ). touch_of w (at list k)) e)
      go (inr k) ih = in_Tail (ih k)

module _ {w : ℕ} {heights list : List ℕ} (C : Climbing w heights list) where
  abbrev n : ℕ
  n = length heights

  -- the next pair is on the tile
  pub greater_on : (i : ℕ) → i < length list → greater_of w (at list i) < length heights
  greater_on i l = (C.neighbours (at list i) (at_member list i l)).on

  -- one pair more
  pub so_far_climbs : (marks : List ℕ) {old new : Lists} (i : ℕ) → i < length list
      → SoFar (tile_land rule4 w heights marks) (met_touches w list i) old → Sized (length heights) old
      → Met (at heights) (lesser_of (at list i)) (greater_of w (at list i)) old new
      → SoFar (tile_land rule4 w heights marks) (met_touches w list (i + 1)) new
  so_far_climbs marks {old} {new} i l S size m =
      rw (add-one i)
      (so_far_next L S (touch_of w (at list i)) (pair-lesser w n (at list i) (C.neighbours (at list i) (at_member list i l)))
      (greater_on i l) up size m)
    where
      L : Land
      L = tile_land rule4 w heights marks

      up : (y : Touch) → y ∈ met_touches w list i → top L y ≤ top L (touch_of w (at list i))
      up y k =
          let (j, b, e) = met_member w list i k in
          subst (λ (z : Touch). top L z ≤ top L (touch_of w (at list i))) (sym e) (C.climbs j i b l)

-- all pairs of neighbouring wet cells
pub climbed_notes : {w : ℕ} {heights levels list : List ℕ} → Grid w (length heights) → WetClimbing w heights levels list → (marks : List ℕ)
    {l : Lists} → SoFar (tile_land rule4 w heights marks) (met_touches w list (length list)) l → Sized (length heights) l
    → Notes (tile_land rule4 w heights marks) (wet_cells (tile_land rule4 w heights marks) levels) heights l.flags l.parents l.joins
climbed_notes {w} {heights} {levels} {list} G W marks F size =
    notes_of L S (wet_on_land L levels) F only all heights G.few refl (λ c. refl) size
  where
    L : Land
    L = tile_land rule4 w heights marks

    S : List ℕ
    S = wet_cells (tile_land rule4 w heights marks) levels

    only : (x : Touch) → x ∈ met_touches w list (length list) → Touching L S x
    only x m =
        let (j, l, e) = met_member w list (length list) m in
        subst (Touching L S) (sym e) (pairs_touch w heights levels G marks (at list j) (W.only (at list j) (at_member list j l)))

    all : (x : Touch) → x ∈ touches L S → x ∈ met_touches w list (length list)
    all x m =
        let (p, k, e) = touches_paired w heights levels G marks x m in
        let (j, l, f) = at_place list (W.all p k) in
        subst (λ (z : Touch). z ∈ met_touches w list (length list)) (sym (e ∙ ap (touch_of w) f)) (met_holds w list (length list) j l)
