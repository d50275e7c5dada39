-- Rule 1 by the places of a window, for any rule without holes that compares ways down by numbers. A place wins where a lower cell stands at
-- it, no cell at another place is a steeper way down, and none at a lesser place as steep: then that cell is the first receiver. Where no place
-- has a lower cell, there is none.
-- Assumes nothing.
use Rattle.std.proofs.Common.{◌≡◌, ℕ, ◌<◌, ◌≤◌, true, false, ltb, ◌⊎◌, List, [], length, ap, subst, inl, inr, arith, ltb-true, lt-ltb}
use Rattle.grid.proofs.Window.{beside_stands, stands_beside, stands_cell, stands_less, stands_place}
use Rattle.grid.specs.Window.{IsRule, place_of, Rows, Stands}
use Rattle.lists.proofs.Keep.{keep_holds, keep_member}
use Rattle.lists.proofs.Range.{upto-below, upto_holds}
use Rattle.lists.proofs.Tests.{and_both, and_right, eq, gt, lt, Three, three}
use Rattle.lists.specs.Lists.{at, upto, ◌∈◌}
use Rattle.rules.proofs.Steepest.{first_steepest, steepest_first}
use Rattle.rules.specs.FirstWays.{first_receiver, lower_neighbours, neighbours}
use Rattle.rules.specs.Land.{Land, Rule}
use Rattle.rules.specs.Steepest.{Steepest}
use Rattle.rules.specs.Tile.{tile_land}

-- a cell's ways down, as a rule without holes compares them: the slope of the way to what stands at a place is a number
pub record Ways (R : Rule) (w : ℕ) (heights : List ℕ) (c : ℕ) (slope : (p d : ℕ) → ℕ) : Type 0 where
  pub is_rule : IsRule R.places
  pub whole : (mark : ℕ) → R.solid mark ≡ true
  pub rows : Rows w (length heights)
  pub by_slope : (a b : ℕ) → R.steeper w heights c a b ≡ ltb (slope (place_of w c b) b) (slope (place_of w c a) a)

module _ {R : Rule} {w : ℕ} {heights : List ℕ} (marks : List ℕ) {c : ℕ} {slope : ℕ → ℕ → ℕ} (W : Ways R w heights c slope) where
  abbrev L : Land
  L = tile_land R w heights marks

  abbrev n : ℕ
  n = length heights

  -- the cell x at place p wins
  pub record Wins (p x : ℕ) : Type 0 where
    pub place : p ∈ R.places
    pub stands : Stands w n c p x
    pub falls : at heights x < at heights c
    pub most : (q d : ℕ) → q ∈ R.places → Stands w n c q d → slope q d ≤ slope p x
    pub first : (q d : ℕ) → q ∈ R.places → Stands w n c q d → q < p → slope q d < slope p x

  -- a lower neighbour stands at one of the places
  lower_stands : (d : ℕ) → d ∈ lower_neighbours L c → (q : ℕ) × (q ∈ R.places) × Stands w n c q d × (at heights d < at heights c)
  unfolding lower_neighbours neighbours
  lower_stands d m =
      let (i, low) = keep_member (λ e. ltb (at heights e) (at heights c)) (neighbours L c) m in
      let (j, t) = keep_member (L.beside c) (upto n) i in
      let b = and_right (R.solid (at marks d)) _ (and_right (R.solid (at marks c)) _ t) in
      let (q, k, S) = beside_stands R.places w n c d W.is_rule (upto-below j) b in
      (q, k, S, ltb-true _ _ low)

  stands_lower : (q d : ℕ) → q ∈ R.places → Stands w n c q d → at heights d < at heights c → d ∈ lower_neighbours L c
  unfolding lower_neighbours neighbours
  stands_lower q d m S low =
      let b = and_both (R.solid (at marks c)) _ (W.whole (at marks c)) (and_both (R.solid (at marks d)) _ (W.whole (at marks d)) (stands_beside S m)) in
      keep_holds (λ e. ltb (at heights e) (at heights c)) (keep_holds (L.beside c) (upto_holds S.on) b) (lt-ltb _ _ low)

  -- how steep the way to a cell is, by its place in the window
  abbrev by : ℕ → ℕ
  by d = slope (place_of w c d) d

  slope_by : (q d : ℕ) → Stands w n c q d → by d ≡ slope q d
  slope_by q d S = ap (λ (p : ℕ). slope p d) (stands_place S)

  pub winner_first : {p x : ℕ} → L.outlet c ≡ false → Wins p x → first_receiver L c ≡ x
  winner_first {p} {x} o X =
      steepest_first L c by W.by_slope x o
      (record {
        lower = stands_lower p x X.place X.stands X.falls;
        most = λ e m.
            let (q, k, S, low) = lower_stands e m in
            let h = X.most q e k S in
            omega (arith, slope_by q e S, slope_by p x X.stands);
        first = λ e m l.
            let (q, k, S, low) = lower_stands e m in
            let h = X.first q e k S (earlier q e S l (three q p)) in
            omega (arith, slope_by q e S, slope_by p x X.stands);
      })
    where
      -- a lesser cell stands at a lesser place
      earlier : (q e : ℕ) → Stands w n c q e → e < x → Three q p → q < p
      earlier q e S l (lt h) = h
      earlier q e S l (eq h) =
          let f = stands_cell (subst (λ (r : ℕ). Stands w n c r e) h S) in let g = stands_cell X.stands in absurd (omega arith)
      earlier q e S l (gt h) = let f = stands_less X.stands W.rows.wide S h in absurd (omega arith)

  pub none_first : L.outlet c ≡ false → ((q d : ℕ) → q ∈ R.places → Stands w n c q d → at heights c ≤ at heights d) → first_receiver L c ≡ c
  none_first o high = go (first_steepest L c by W.by_slope o)
    where
      go : ((lower_neighbours L c ≡ []) × (first_receiver L c ≡ c)) ⊎ Steepest L by c (first_receiver L c) → first_receiver L c ≡ c
      go (inl (e, q)) = q
      go (inr P) =
          let (q, k, S, low) = lower_stands _ P.lower in
          let h = high q _ k S in
          absurd (omega arith)
