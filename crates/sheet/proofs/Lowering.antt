-- Levels with a margin, and the masks of neighbours: what lowest weights and like masks ask for, and what they leave, said of the levels themselves.
-- Assumes nothing.
use Rattle.std.proofs.Common.{◌≡◌, ℕ, ◌+◌, ◌<◌, ◌≤◌, Bool, List, length, take, drop, sym, refl, ap, ◌∙◌, subst, arith, length-take-le}
use Rattle.first_receivers.specs.Weights.{first_is}
use Rattle.grid.proofs.Masks.{mask_same, masks_filled}
use Rattle.grid.proofs.Rules.{around_rule}
use Rattle.grid.specs.Masks.{leads, mask_of, Masks}
use Rattle.grid.specs.Neighbours.{places_by}
use Rattle.grid.specs.Window.{around, beside, Grid, Stands}
use Rattle.lists.proofs.Filled.{filled_again, filled-length, filled_same, filled-take}
use Rattle.lists.proofs.Stretch.{stretch-at}
use Rattle.lists.proofs.Tab.{tab-at, tab-length}
use Rattle.lists.specs.Lists.{at, filled, stored, stretch, tab, ◌∈◌}
use Rattle.lowest.specs.Lowest.{Levelled, lowest_land}
use Rattle.rules.specs.Tile.{Tile}
use Rattle.sheet.proofs.Margins.{stored_at, stored-length}
use Rattle.sheet.specs.SheetLinks.{level_tile, Lowered, sheet_lead}
use Rattle.spread.specs.Steps.{alike}
use Rattle.grid.specs.declared.Neighbours.{Neighbours}

-- the masks of a tile's neighbours, and its levels with a margin
pub record Laid (N : Neighbours) (w : ℕ) (levels marks masks labels : List ℕ) : Type 0 where
  pub tile : Tile w levels marks
  pub masks_are : masks ≡ tab (length levels) (mask_of around w (length levels) (beside (places_by N) w))
  pub old : List ℕ
  pub room : length levels + 130 ≤ length old
  pub labels_are : labels ≡ stored 65 levels old

module _ {N : Neighbours} {w : ℕ} {levels marks masks labels : List ℕ} (K : Laid N w levels marks masks labels) where
  abbrev n : ℕ
  n = length levels

  abbrev near : ℕ → ℕ → Bool
  near = beside (places_by N) w

  pub masks_length : length masks ≡ n
  masks_length = ap length K.masks_are ∙ tab-length (mask_of around w n near) n

  masks_say : Masks around w n near masks
  masks_say c h = ap (λ (l : List ℕ). at l c) K.masks_are ∙ tab-at (mask_of around w n near) n c 0 h

  labels_length : length labels ≡ length K.old
  labels_length = let r = K.room in ap length K.labels_are ∙ stored-length levels K.old (omega arith)

  label_at : (c : ℕ) → c < n → at labels (c + 65) ≡ at levels c
  label_at c h = let r = K.room in ap (λ (l : List ℕ). at l (c + 65)) K.labels_are ∙ stored_at levels K.old c (omega arith) h

  labels-levels : stretch 65 n labels ≡ levels
  labels-levels =
      let r = K.room in
      ap (stretch 65 n) K.labels_are
      ∙ stretch-at (take 65 K.old) levels (drop (65 + n) K.old) 65 n (length-take-le 65 K.old (omega arith)) refl

  -- what lowest weights ask for
  pub levelled : Levelled N w masks labels marks
  levelled =
      let e = masks_length in
      record {
        grid = subst (Grid w) (sym e) K.tile.grid;
        neighbours = subst (λ (m : ℕ). Masks around w m near masks) (sym e) masks_say;
        margin = omega (arith, K.room, labels_length);
        lifted = λ c h. let low = K.tile.lifted c in let same = label_at c (omega arith) in omega arith;
        marked = omega (arith, K.tile.marked);
      }

  -- and what they leave
  pub lowest_are : {out : List ℕ} (before : List ℕ)
      → out ≡ filled (mask_of around w (length masks) (first_is (lowest_land N w (length masks) labels marks))) (length masks) before
      → out ≡ filled (mask_of around w n (first_is (level_tile N w levels marks))) n before
  lowest_are before e = e ∙ rw (masks_length, labels-levels)

  -- masks of like labels are those of one level
  pub likes_are : {out : List ℕ} (before : List ℕ)
      → out ≡ filled (mask_of around w (length masks) (alike near (λ c. at labels (c + 65)))) (length masks) before
      → out ≡ filled (mask_of around w n (alike near (at levels))) n before
  likes_are before e =
      e
      ∙ rw masks_length
      (filled_same (mask_of around w n (alike near (λ c. at labels (c + 65)))) (mask_of around w n (alike near (at levels))) n before
      (λ c h. mask_same K.tile.grid.rows around_rule c (alike near (λ c. at labels (c + 65))) (alike near (at levels)) (agree c h)))
    where
      agree : (c : ℕ) → c < n → (p d : ℕ) → p ∈ around → Stands w n c p d
          → alike near (λ c. at labels (c + 65)) c d ≡ alike near (at levels) c d
      agree c h p d m S = rw (label_at c h, label_at d S.on)

-- and what steps ask for: the first n masks of one level
pub lowered : (N : Neighbours) {w : ℕ} {levels marks weights likes : List ℕ} → Tile w levels marks → (before old : List ℕ) → length levels ≤ length before
    → weights ≡ filled (mask_of around w (length levels) (first_is (level_tile N w levels marks))) (length levels) before
    → likes ≡ filled (mask_of around w (length levels) (alike (beside (places_by N) w) (at levels))) (length levels) old
    → Lowered N w levels marks weights (take (length levels) likes)
lowered N {w} {levels} {marks} {weights} {likes} T before old room e f =
    record {
      tile = T;
      lowest = masks_filled around w m lowest before weights e;
      level = λ c h. ap (λ (l : List ℕ). at l c) are ∙ tab-at (mask_of around w m level) m c 0 h;
      full = ap length are ∙ tab-length (mask_of around w m level) m;
      room = let s = ap length e ∙ filled-length (mask_of around w m lowest) m before room in omega arith;
    }
  where
    m : ℕ
    m = length levels

    lowest : ℕ → ℕ → Bool
    lowest = first_is (level_tile N w levels marks)

    level : ℕ → ℕ → Bool
    level = alike (beside (places_by N) w) (at levels)

    are : take m likes ≡ tab m (mask_of around w m level)
    are = filled-take (mask_of around w m level) m old f

-- weights of sheet flow in the place of those of the lowest neighbours
pub lead-filled : (N : Neighbours) (w : ℕ) (levels marks before : List ℕ) {weights out : List ℕ}
    → weights ≡ filled (mask_of around w (length levels) (first_is (level_tile N w levels marks))) (length levels) before
    → out ≡ filled (mask_of around w (length levels) (leads (sheet_lead N w levels marks))) (length levels) weights
    → out ≡ filled (mask_of around w (length levels) (leads (sheet_lead N w levels marks))) (length levels) before
lead-filled N w levels marks before e f =
    f ∙ ap (filled (mask_of around w (length levels) (leads (sheet_lead N w levels marks))) (length levels)) e
    ∙ filled_again (mask_of around w (length levels) (leads (sheet_lead N w levels marks)))
    (mask_of around w (length levels) (first_is (level_tile N w levels marks))) (length levels) before
