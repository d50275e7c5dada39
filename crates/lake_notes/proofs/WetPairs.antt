-- The pairs of neighbouring wet cells, listed by number, are the touches of the wet cells; and they ascend.
-- Assumes nothing.
use mathlib.Core.Bool.{false≢true, true}
use mathlib.Core.List.Memᴰ.{head as in_head}
use mathlib.Core.List.Memᴰ.{tail as in_Tail}
use mathlib.Core.List.{List}
use mathlib.Core.Path.{ap, refl, sym, ◌∙◌, ◌≡◌}
use Prim.Native.Nat.{suc, zero, ℕ, ◌%◌, ◌*◌, ◌+◌, ◌/◌, ◌<◌, ◌≤◌}
use native.Mathlib.Omega.{arith}
use lib.Dec.{ltb}
use lib.ListN.{length}
use borrow.Author.Tests.{lt-ltb, ltb-true}
use Rattle.grid.proofs.Rules.{sides_rule}
use Rattle.grid.proofs.Sides.{below_stands, each_side, right_stands, stands_above, stands_below, stands_left, stands_right}
use Rattle.grid.proofs.Window.{beside_stands, stands_beside}
use Rattle.grid.specs.Window.{beside, Grid, sides, Stands}
use Rattle.lake_notes.specs.WetPairs.{both_wet, touch_of, wet_pair, wet_pairs, wet_side}
use Rattle.lake_rules.proofs.Joining.{touch_is, Touching}
use Rattle.lake_rules.proofs.WetCells.{wet_cell, wet_holds}
use Rattle.lake_rules.specs.Groups.{Touch, touches}
use Rattle.lake_rules.specs.Lakes.{wet_cells}
use Rattle.lists.proofs.Keep.{keep_holds, keep-length, keep_member}
use Rattle.lists.proofs.Range.{range_length, upto-below, upto_holds}
use Rattle.lists.proofs.Rising.{rising_ascends, rising_keep, rising_range}
use Rattle.lists.proofs.Tests.{and_both, and_left, and_right}
use Rattle.lists.specs.Ascending.{Ascending}
use Rattle.lists.specs.Lists.{at, upto, ◌∈◌}
use Rattle.pairs.proofs.Pairs.{pair_crossing, pair_rises, pair_stands}
use Rattle.pairs.specs.Pairs.{crossing_of, greater_of, IsPair, lesser_of, Pairs}
use Rattle.rules.specs.Land.{Land, rule4}
use Rattle.rules.specs.Network.{is_wet}
use Rattle.rules.specs.Passes.{Crossing}
use Rattle.rules.specs.Tile.{tile_land}

module _ (w : ℕ) (heights levels : List ℕ) where
  abbrev n : ℕ
  n = length heights

  pub pairs_ascend : (c : ℕ) → Ascending (wet_pairs w heights levels c)
  unfolding wet_pairs
  pairs_ascend c =
      rising_ascends (λ p. p) (wet_pairs w heights levels c)
      (rising_keep (λ p. p) (λ p. p) (wet_pair w heights levels) (λ x y s t l. l) (rising_range (4 * c) 0))

  pub pairs-most : (c : ℕ) → length (wet_pairs w heights levels c) ≤ 4 * c
  unfolding wet_pairs
  pairs-most c = omega (arith, keep-length (wet_pair w heights levels) (upto (4 * c)), range_length (4 * c) 0)

  -- a pair that is listed: it stands on the tile, its cells share a side, and both are wet
  pub record Listed (p : ℕ) : Type 0 where
    pub is_pair : IsPair w (length heights) p
    pub on : lesser_of p < length heights
    pub share : beside sides w (lesser_of p) (greater_of w p) ≡ true
    pub wet_lesser : at heights (lesser_of p) < at levels (lesser_of p)
    pub wet_greater : at heights (greater_of w p) < at levels (greater_of w p)

  module _ (G : Grid w (length heights)) where
    -- pair number i of cell c, with cell d
    listed_side : (p i c d : ℕ) → p ≡ 4 * c + i → i < 4 → c < n → Stands w n c (5 + i) d → 5 + i ∈ sides → both_wet heights levels c d ≡ true
        → Listed p
    listed_side p i c d e h on T s t =
        let x : crossing_of w p ≡ record { lesser = c; greater = d } = pair_crossing p i e h T in
        let a : lesser_of p ≡ c = ap (λ (z : Crossing). z.lesser) x in
        let b : greater_of w p ≡ d = ap (λ (z : Crossing). z.greater) x in
        record {
          is_pair = pair_stands p i e h T;
          on = rw a on;
          share = ap (λ (z : Crossing). beside sides w z.lesser z.greater) x ∙ stands_beside T s;
          wet_lesser = rw a (ltb-true _ _ (and_left (is_wet (at heights c) (at levels c)) _ t));
          wet_greater = rw b (ltb-true _ _ (and_right (is_wet (at heights c) (at levels c)) _ t));
        }

    listed_by : (p i c : ℕ) → p ≡ 4 * c + i → i < 4 → c < n → wet_side w heights levels i c ≡ true → Listed p
    listed_by p zero c e h on t =
        listed_side p 0 c (c + 1) e h on (right_stands G.rows on (ltb-true _ _ (and_left (ltb (c % w + 1) w) _ t)))
        (in_Tail (in_Tail (in_head refl)))
        (and_right (ltb (c % w + 1) w) _ t)
    listed_by p (suc zero) c e h on t = absurd (false≢true t)
    listed_by p (suc (suc zero)) c e h on t =
        listed_side p 2 c (c + w) e h on (below_stands G.rows on (ltb-true _ _ (and_left (ltb (c + w) n) _ t)))
        (in_Tail (in_Tail (in_Tail (in_head refl))))
        (and_right (ltb (c + w) n) _ t)
    listed_by p (suc (suc (suc i))) c e h on t = absurd (false≢true t)

    pub pairs_listed : (p : ℕ) → p ∈ wet_pairs w heights levels (length heights) → Listed p
    unfolding wet_pairs wet_pair
    pairs_listed p m =
        let (i, t) = keep_member (wet_pair w heights levels) (upto (4 * n)) m in
        let l : p < 4 * n = upto-below i in
        listed_by p (p % 4) (p / 4) (omega arith) (omega arith) (omega arith) t

    pub pairs-neighbours : Pairs w (length heights) (wet_pairs w heights levels (length heights))
    pairs-neighbours p m = (pairs_listed p m).is_pair

    listed_again : (i c : ℕ) → i < 4 → c < n → wet_side w heights levels i c ≡ true → 4 * c + i ∈ wet_pairs w heights levels n
    unfolding wet_pairs wet_pair
    listed_again i c h l t =
        let a : (4 * c + i) % 4 ≡ i = omega arith in
        let b : (4 * c + i) / 4 ≡ c = omega arith in
        keep_holds (wet_pair w heights levels) (upto_holds {n = 4 * n} (omega arith)) (rw (a, b) t)

    -- the tile with any marks
    module _ (marks : List ℕ) where
      abbrev L : Land
      L = tile_land rule4 w heights marks

      abbrev S : List ℕ
      S = wet_cells (tile_land rule4 w heights marks) levels

      -- each pair that is listed is a touch of the wet cells
      pub pairs_touch : (p : ℕ) → p ∈ wet_pairs w heights levels (length heights)
          → Touching (tile_land rule4 w heights marks) (wet_cells (tile_land rule4 w heights marks) levels) (touch_of w p)
      pairs_touch p m =
          let K = pairs_listed p m in
          record {
            one_in = wet_holds L levels K.on K.wet_lesser;
            other_in = wet_holds L levels K.is_pair.on K.wet_greater;
            ordered = pair_rises w n p K.is_pair;
            beside = K.share;
          }

      -- and each touch is listed
      abbrev Paired : Touch → Type 0
      Paired x = (p : ℕ) × (p ∈ wet_pairs w heights levels n) × (x ≡ touch_of w p)

      paired : (x : Touch) (i : ℕ) → i < 4 → Stands w n x.lesser (5 + i) x.greater → x.lesser < n
          → wet_side w heights levels i x.lesser ≡ true → Paired x
      paired x i h T l t =
          let p : ℕ = 4 * x.lesser + i in
          let e : crossing_of w p ≡ record { lesser = x.lesser; greater = x.greater } = pair_crossing p i refl h T in
          (p, listed_again i x.lesser h l t, λ j. record { lesser = (sym e j).lesser; greater = (sym e j).greater })

      pub touches_paired : (x : Touch) → x ∈ touches (tile_land rule4 w heights marks) (wet_cells (tile_land rule4 w heights marks) levels)
          → (p : ℕ) × (p ∈ wet_pairs w heights levels (length heights)) × (x ≡ touch_of w p)
      touches_paired x m =
          let (q, i, T) = beside_stands sides w n a b sides_rule lb K.beside in
          each_side (λ q. Stands w n a q b → Paired x)
          (λ U. absurd (omega (arith, K.ordered, stands_above G.rows la U)))
          (λ U. absurd (omega (arith, K.ordered, (stands_left G.rows la U).0)))
          (λ U.
          let (e, col) = stands_right G.rows la U in
          paired x 0 (omega arith) U la (and_both _ _ (lt-ltb (a % w + 1) w col) (rw e at both)))
          (λ U.
          let (e, row) = stands_below G.rows la U in
          paired x 2 (omega arith) U la (and_both _ _ (lt-ltb (a + w) n row) (rw e at both)))
          q i T
        where
          a : ℕ
          a = x.lesser

          b : ℕ
          b = x.greater

          K : Touching L S x
          K = touch_is L S m

          la : a < n
          la = (wet_cell L levels K.one_in).0

          lb : b < n
          lb = (wet_cell L levels K.other_in).0

          both : both_wet heights levels a b ≡ true
          both = and_both _ _ (lt-ltb _ _ (wet_cell L levels K.one_in).1) (lt-ltb _ _ (wet_cell L levels K.other_in).1)
