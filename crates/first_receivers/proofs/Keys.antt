-- The least key of a kind of places says the lowest cell of that kind, and of equally low ones the first. So the key of the steepest way leads to
-- the place that wins, and its weight is the mask of the first receiver alone.
-- Assumes nothing.
use Rattle.std.proofs.Common.{◌≡◌, ℕ, ◌+◌, ◌-◌, ◌*◌, ◌/◌, ◌%◌, ◌<◌, ◌≤◌, Bool, true, false, cond, ltb, ◌⊎◌, List, length, sym, refl, ap, ◌∙◌, subst, inl, inr}
use Rattle.std.proofs.Common.{arith, ltb-false, ltb-true}
use Rattle.first_receivers.proofs.LeastKeys.{least_of_fact, LeastOf}
use Rattle.first_receivers.proofs.Taken.{Taking}
use Rattle.first_receivers.proofs.OneKind.{kind_key, kind_low, kind_none, kind_placed, kind_real, kind_slope, OneKind}
use Rattle.first_receivers.proofs.Winners.{none_first, Ways, winner_first}
use Rattle.first_receivers.specs.Weights.{beside, drop_to, itself, key, key_by, least_key, Placed, steepest_by}
use Rattle.grid.proofs.Corners.{around_kinds, bit_range, corner-around, corner_diagonal, side_straight}
use Rattle.grid.proofs.Rules.{places-around, rule_by_lem, sides_rule}
use Rattle.grid.proofs.Steepness.{never_as_steep, one_kind_le, one_kind_less, square_le, square-less}
use Rattle.grid.specs.Masks.{bit_of}
use Rattle.grid.specs.Neighbours.{is_corner, places_by, steepness}
use Rattle.grid.specs.Window.{around, corners, sides, Stands}
use Rattle.lists.proofs.Tests.{lt_or_ge}
use Rattle.lists.specs.Lists.{at, ◌∈◌}
use Rattle.rules.specs.FirstWays.{first_receiver}
use Rattle.rules.specs.Land.{Land, rule_by}
use Rattle.rules.specs.Tile.{Tile, tile_land}
use Rattle.grid.specs.declared.Neighbours.{Neighbours}
use Rattle.grid.specs.declared.Neighbours.TheVariants.{Eight, Four}

module _ (N : Neighbours) (w : ℕ) (heights marks : List ℕ) (T : Tile w heights marks) (c : ℕ)
    (inner : (tile_land (rule_by N) w heights marks).outlet c ≡ false) (x : ℕ → ℕ) (X : Taking w (length heights) c x) where
  abbrev L : Land
  L = tile_land (rule_by N) w heights marks

  abbrev n : ℕ
  n = length heights

  abbrev h : ℕ → ℕ
  h = at heights

  -- how steep the way to d at place p is
  abbrev slope : ℕ → ℕ → ℕ
  slope p d = steepness p (h c - h d)

  ways : Ways (rule_by N) w heights c slope
  ways = record { is_rule = rule_by_lem N; whole = λ mark. refl; rows = T.grid.rows; by_slope = λ a b. refl }

  -- sides are of one kind, and so are corners
  one_kind : (kind : List ℕ) (t : Bool) → ((p : ℕ) → p ∈ kind → p ∈ around) → ((p : ℕ) → p ∈ kind → is_corner p ≡ t)
      → OneKind w heights c slope x kind
  one_kind kind t near told =
      record {
        near = near;
        real = λ p d m S. X.real p (near p m) d S;
        no_lower = λ q d p e i m l. one_kind_le q p (told q i ∙ sym (told p m)) (h c - h d) (h c - h e) (omega arith);
        lower = λ q d p e i m f l. one_kind_less q p (told q i ∙ sym (told p m)) (h c - h d) (h c - h e) (omega arith);
      }

  side_around : (p : ℕ) → p ∈ sides → p ∈ around
  side_around = places-around sides_rule

  straight_ways : OneKind w heights c slope x sides
  straight_ways = one_kind sides false side_around side_straight

  diagonal_ways : OneKind w heights c slope x corners
  diagonal_ways = one_kind corners true corner-around corner_diagonal

  -- the least keys of the sides and of the corners, and their drops: the greatest straight and the greatest diagonal one
  module _ (straight diagonal a b : ℕ) (S : LeastOf heights c x sides straight) (D : LeastOf heights c x corners diagonal)
      (straight-drop : straight / 256 + a ≡ h c) (diagonal-drop : diagonal / 256 + b ≡ h c) where
    side_slope : (p : ℕ) → p ∈ sides → straight ≡ key heights (x p) (bit_of around p) → (q d : ℕ) → q ∈ sides → Stands w n c q d
        → (slope q d ≤ slope p (x p))
        × (q < p → slope q d < slope p (x p))
    side_slope = kind_slope straight_ways S

    -- the lowest side stands on the tile, and its drop is the greatest
    side_real : (p : ℕ) → p ∈ sides → straight ≡ key heights (x p) (bit_of around p) → Stands w n c p (x p) × (h (x p) < h c)
        × (h c - h (x p) ≡ a)
    side_real p m e =
        let (high, bit, low) = kind_key straight_ways S p m e in
        (kind_real straight_ways S p m e (X.side p m), low, omega arith)

    -- with eight the steeper of the two kinds wins
    module _ (only : (q : ℕ) → q ∈ places_by N → q ∈ around) (all : (q : ℕ) → q ∈ around → q ∈ places_by N) where
      corner_slope : (p : ℕ) → p ∈ corners → diagonal ≡ key heights (x p) (bit_of around p) → (q d : ℕ) → q ∈ corners → Stands w n c q d
          → (slope q d ≤ slope p (x p))
          × (q < p → slope q d < slope p (x p))
      corner_slope = kind_slope diagonal_ways D

      -- no way to a side is steeper than a straight drop of a, and none to a corner than a diagonal drop of b
      side_most : (q d : ℕ) → q ∈ sides → Stands w n c q d → slope q d ≤ 2 * (a * a)
      unfolding steepness
      side_most q d i R =
          let l = kind_low straight_ways S q d i R in
          let s = square_le (h c - h d) a (omega arith) in
          rw (side_straight q i) (omega arith)

      corner_most : (q d : ℕ) → q ∈ corners → Stands w n c q d → slope q d ≤ b * b
      unfolding steepness
      corner_most q d i R =
          let l = kind_low diagonal_ways D q d i R in
          rw (corner_diagonal q i) (square_le (h c - h d) b (omega arith))

      -- the greatest diagonal drop is steeper than every straight one
      module _ (steep : 2 * (a * a) < b * b) where
        some : 0 < b
        some = go (lt_or_ge 0 b)
          where
            go : (0 < b) ⊎ (b ≤ 0) → 0 < b
            go (inl l) = l
            go (inr l) = let z = square_le b 0 l in absurd (omega arith)

        module _ (p : ℕ) (m : p ∈ corners) (e : diagonal ≡ key heights (x p) (bit_of around p)) where
          lowest : (diagonal / 256 ≡ h (x p)) × (diagonal % 256 ≡ bit_of around p) × (h (x p) < h c)
          lowest = kind_key diagonal_ways D p m e

          -- its cell is no stand-in: that would be no lower than the lowest side
          corner_real : Stands w n c p (x p)
          corner_real = go (X.corner p m)
            where
              go : (x p ≡ c) ⊎ (((q : ℕ) × (q ∈ sides) × (x p ≡ x q)) ⊎ Stands w n c p (x p)) → Stands w n c p (x p)
              go (inl q) = let f = ap h q in let l = lowest.0 in let z = some in absurd (omega arith)
              go (inr (inl (q, i, f))) =
                  let g = ap h f in
                  let l = lowest.0 in
                  let r = bit_range q (side_around q i) in
                  let t = S.all q i in
                  let z = square_le b a (omega arith) in
                  absurd (omega arith)
              go (inr (inr R)) = R

          own_slope : slope p (x p) ≡ b * b
          unfolding steepness
          own_slope = let l = lowest.0 in let drop : h c - h (x p) ≡ b = omega arith in rw (corner_diagonal p m, drop)

          over : (q d : ℕ) → (q ∈ sides) ⊎ (q ∈ corners) → Stands w n c q d
              → (slope q d ≤ slope p (x p))
              × (q < p → slope q d < slope p (x p))
          over q d (inl i) Q = let t = side_most q d i Q in let o = own_slope in (omega arith, λ l. omega arith)
          over q d (inr i) Q = corner_slope p m e q d i Q

          corner_placed : Placed N w n c (first_receiver L c) (diagonal % 256)
          corner_placed =
              beside (all p (corner-around p m))
              (subst (Stands w n c p) (sym (winner_first marks ways inner (record {
                place = all p (corner-around p m);
                stands = corner_real;
                falls = lowest.2;
                most = λ q d i Q. (over q d (around_kinds q (only q i)) Q).0;
                first = λ q d i Q. (over q d (around_kinds q (only q i)) Q).1;
              }))) corner_real) lowest.1

        diagonal_placed : Placed N w n c (first_receiver L c) (diagonal % 256)
        diagonal_placed = go D.is
          where
            go : (diagonal ≡ key heights c 0) ⊎ ((p : ℕ) × (p ∈ corners) × (diagonal ≡ key heights (x p) (bit_of around p)))
                → Placed N w n c (first_receiver L c) (diagonal % 256)
            go (inl e) = let z = some in absurd (omega arith)
            go (inr (p, m, e)) = corner_placed p m e

      -- it is not: then the lowest side wins, if there is a lower one
      module _ (flat : b * b ≤ 2 * (a * a)) where
        module _ (p : ℕ) (m : p ∈ sides) (e : straight ≡ key heights (x p) (bit_of around p)) where
          straight_slope : slope p (x p) ≡ 2 * (a * a)
          unfolding steepness
          straight_slope = rw (side_straight p m, (side_real p m e).2)

          -- the two are never equally steep
          strictly : b * b < 2 * (a * a)
          strictly = go (lt_or_ge (b * b) (2 * (a * a)))
            where
              go : (b * b < 2 * (a * a)) ⊎ (2 * (a * a) ≤ b * b) → b * b < 2 * (a * a)
              go (inl l) = l
              go (inr l) = let z = (never_as_steep a b (omega arith)).0 in let t = side_real p m e in let f = t.1 in let g = t.2 in absurd (omega arith)

          above : (q d : ℕ) → (q ∈ sides) ⊎ (q ∈ corners) → Stands w n c q d
              → (slope q d ≤ slope p (x p))
              × (q < p → slope q d < slope p (x p))
          above q d (inl i) Q = side_slope p m e q d i Q
          above q d (inr i) Q = let t = corner_most q d i Q in let o = straight_slope in let z = strictly in (omega arith, λ l. omega arith)

          side_placed : Placed N w n c (first_receiver L c) (straight % 256)
          side_placed =
              let (R, low, drop) = side_real p m e in
              let r = bit_range p (side_around p m) in
              beside {k = straight % 256} (all p (side_around p m))
              (subst (Stands w n c p) (sym (winner_first marks ways inner (record {
                place = all p (side_around p m);
                stands = R;
                falls = low;
                most = λ q d i Q. (above q d (around_kinds q (only q i)) Q).0;
                first = λ q d i Q. (above q d (around_kinds q (only q i)) Q).1;
              }))) R) (omega arith)

        -- no side is lower, and so no corner
        none_lower : straight ≡ key heights c 0 → (q d : ℕ) → (q ∈ sides) ⊎ (q ∈ corners) → Stands w n c q d → h c ≤ h d
        none_lower e q d (inl i) Q = kind_none straight_ways S e q d i Q
        none_lower e q d (inr i) Q =
            let z : b * b ≤ 0 = let f : a ≡ 0 = omega arith in subst (λ (y : ℕ). b * b ≤ 2 * (y * y)) f flat in
            let t = kind_low diagonal_ways D q d i Q in
            no_drop (lt_or_ge 0 b) z t
          where
            no_drop : (0 < b) ⊎ (b ≤ 0) → b * b ≤ 0 → diagonal / 256 ≤ h d → h c ≤ h d
            no_drop (inl l) z t = let y = square-less 0 b l in absurd (omega arith)
            no_drop (inr l) z t = omega arith

        straight_placed : Placed N w n c (first_receiver L c) (straight % 256)
        straight_placed = go S.is
          where
            go : (straight ≡ key heights c 0) ⊎ ((p : ℕ) × (p ∈ sides) × (straight ≡ key heights (x p) (bit_of around p)))
                → Placed N w n c (first_receiver L c) (straight % 256)
            go (inl e) =
                itself {k = straight % 256} (none_first marks ways inner (λ q d i Q. none_lower e q d (around_kinds q (only q i)) Q))
                (omega arith)
            go (inr (p, m, e)) = side_placed p m e

      eight_placed : (t : Bool) → ltb (2 * (a * a)) (b * b) ≡ t → Placed N w n c (first_receiver L c) (cond t diagonal straight % 256)
      eight_placed true t = diagonal_placed (ltb-true _ _ t)
      eight_placed false t = straight_placed (ltb-false _ _ t)

-- whatever neighbours are asked for
module _ (w : ℕ) (heights marks : List ℕ) (T : Tile w heights marks) (c : ℕ) (x : ℕ → ℕ)
    (X : Taking w (length heights) c x) where
  pub steepest_placed : (N : Neighbours) → (tile_land (rule_by N) w heights marks).outlet c ≡ false
      → Placed N w (length heights) c (first_receiver (tile_land (rule_by N) w heights marks) c) (steepest_by N heights x c % 256)
  steepest_placed N o =
      let S = least_of_fact heights c x sides in
      let D = least_of_fact heights c x corners in
      go N o (least_key heights x c sides) (least_key heights x c corners) S D
    where
      key-drop : (k : ℕ) → k ≤ key heights c 0 → k / 256 + drop_to (at heights c) k ≡ at heights c
      key-drop k l = omega arith

      go : (N : Neighbours) → (tile_land (rule_by N) w heights marks).outlet c ≡ false
          → (straight diagonal : ℕ) → LeastOf heights c x sides straight → LeastOf heights c x corners diagonal
          → Placed N w (length heights) c (first_receiver (tile_land (rule_by N) w heights marks) c) (key_by N (at heights c) straight diagonal % 256)
      go Four o straight diagonal S D =
          kind_placed marks (ways Four w heights marks T c o x X) o x (straight_ways Four w heights marks T c o x X) Four (λ p m. m) X.side S
      go Eight o straight diagonal S D =
          eight_placed Eight w heights marks T c o x X straight diagonal (drop_to (at heights c) straight) (drop_to (at heights c) diagonal) S D
          (key-drop straight S.own) (key-drop diagonal D.own) (λ q m. m) (λ q m. m) _ refl
