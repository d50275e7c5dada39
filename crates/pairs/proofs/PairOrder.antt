-- The order of pairs by height and number is the order of rule 3: of two pairs of one height the lesser number has the lesser cells. So
-- pairs that are enough crossings are enough in order once they are sorted.
-- Assumes nothing.
use mathlib.Core.Bool.{true}
use mathlib.Core.List.Memᴰ.{head as in_head}
use mathlib.Core.List.Memᴰ.{tail as in_Tail}
use mathlib.Core.List.{[], List, map, ◌∷◌}
use mathlib.Core.Logic.{inl, inr, ◌⊎◌}
use mathlib.Core.Path.{ap, refl, subst, sym, ◌∙◌, ◌≡◌}
use Prim.Native.Nat.{ℕ, ◌*◌, ◌<◌, ◌≤◌}
use native.Mathlib.Omega.{arith}
use lib.Arith.{digits_lt}
use lib.ListN.{length}
use Rattle.grid.proofs.Window.{stands_less, stands_place}
use Rattle.grid.specs.Window.{place_of, Stands}
use Rattle.lists.proofs.Ascending.{ascending_rises}
use Rattle.lists.proofs.Map.{map_holds, map_member}
use Rattle.lists.proofs.Tests.{eq, eq_or_ne, gt, lt, lt_or_ge, Three, three}
use Rattle.lists.specs.Ascending.{AscendingBy, Rising, rising_next}
use Rattle.lists.specs.Lists.{◌∈◌}
use Rattle.pairs.proofs.Pairs.{pair_small}
use Rattle.pairs.specs.Pairs.{crossing_of, greater_of, IsPair, lesser_of, most_pairs, pair_height, pair_key, Pairs, place_in}
use Rattle.rules.proofs.CrossingOrder.{by_greater, by_height, by_lesser, Less, Less→less}
use Rattle.rules.specs.Enough.{Enough, first, InOrder, none, Suffices}
use Rattle.rules.specs.Land.{Land, Rule}
use Rattle.rules.specs.Passes.{Crossing, crossing_height, less}
use Rattle.rules.specs.Tile.{Tile, tile_land}

-- x's cells come before y's: by the lesser, then by the greater
abbrev pub CellsLess : Crossing → Crossing → Type 0
CellsLess x y = (x.lesser < y.lesser) ⊎ ((x.lesser ≡ y.lesser) × (x.greater < y.greater))

-- rule 3's order: no higher, and where the heights are one, with cells that come before
pub less_by : (L : Land) (x y : Crossing) → crossing_height L x ≤ crossing_height L y
    → (crossing_height L x ≡ crossing_height L y → CellsLess x y) → less L x y ≡ true
less_by L x y h f = Less→less L x y (go (eq_or_ne (crossing_height L x) (crossing_height L y)))
  where
    tie : crossing_height L x ≡ crossing_height L y → CellsLess x y → Less L x y
    tie e (inl l) = by_lesser e l
    tie e (inr (l, g)) = by_greater e l g

    go : (crossing_height L x ≡ crossing_height L y) ⊎ (crossing_height L x ≡ crossing_height L y → ⊥) → Less L x y
    go (inl e) = tie e (f e)
    go (inr z) = by_height (omega arith)

module _ (w n p q : ℕ) (P : IsPair w n p) (Q : IsPair w n q) where
  -- the lesser pair has the lesser cells
  pub pair-order : 0 < w → p < q → CellsLess (crossing_of w p) (crossing_of w q)
  pair-order wide h = go (three (lesser_of p) (lesser_of q))
    where
      go : Three (lesser_of p) (lesser_of q) → CellsLess (crossing_of w p) (crossing_of w q)
      go (lt l) = inl l
      go (gt l) = absurd (omega arith)
      go (eq e) =
          let T = subst (λ (c : ℕ). Stands w n c (place_in q) (greater_of w q)) (sym e) Q in
          inr (e, stands_less P wide T (omega arith))

  -- a crossing has one pair
  pub pair_one : crossing_of w p ≡ crossing_of w q → p ≡ q
  pair_one e =
      let same : place_in p ≡ place_in q =
      sym (stands_place P) ∙ ap (λ (x : Crossing). place_of w x.lesser x.greater) e ∙ stands_place Q in
      let less : lesser_of p ≡ lesser_of q = ap (λ (x : Crossing). x.lesser) e in
      omega arith

module _ (R : Rule) (w : ℕ) (heights marks : List ℕ) (T : Tile w heights marks) where
  abbrev L : Land
  L = tile_land R w heights marks

  abbrev n : ℕ
  n = length heights

  abbrev cross : ℕ → Crossing
  cross = crossing_of w

  abbrev high : ℕ → ℕ
  high = pair_height w heights

  key-less : (p q : ℕ) → IsPair w n p → IsPair w n q
      → pair_key w heights p < pair_key w heights q → less L (cross p) (cross q) ≡ true
  unfolding crossing_height
  key-less p q i j l = less_by L (cross p) (cross q) (no_higher (lt_or_ge (high q) (high p))) same
    where
      no_higher : (high q < high p) ⊎ (high p ≤ high q) → high p ≤ high q
      no_higher (inl h) = let d = digits_lt h (pair_small w n q j T.grid.few) in absurd (omega arith)
      no_higher (inr h) = h

      same : high p ≡ high q → CellsLess (cross p) (cross q)
      same e =
          let f = ap (λ (z : ℕ). z * most_pairs 4096) e in
          pair-order w n p q i j T.grid.rows.wide (omega arith)

  in_order : (s : List ℕ) → Pairs w n s → Rising (pair_key w heights) s → InOrder L (map cross s)
  in_order [] k r = none
  in_order (x ∷ xs) k (rising_next u r) = first (λ y m. go y (map_member cross xs m)) (in_order xs (λ p m. k p (in_Tail m)) r)
    where
      go : (y : Crossing) → (p : ℕ) × (p ∈ xs) × (y ≡ cross p) → less L (cross x) y ≡ true
      go y (p, m, e) =
          subst (λ (z : Crossing). less L (cross x) z ≡ true) (sym e) (key-less x p (k x (in_head refl)) (k p (in_Tail m)) (u p m))

  -- pairs K that suffice, and s, the same pairs ascending by height and number
  pub sorted_enough : (K s : List ℕ) → Pairs w n K → Suffices L (map cross K)
      → ((p : ℕ) → p ∈ s → p ∈ K) → ((p : ℕ) → p ∈ K → p ∈ s) → AscendingBy (pair_key w heights) s → Enough L (map cross s)
  sorted_enough K s on S f g u =
      record {
        suffices = record { only = λ x m. S.only x (moved s K f x m); all = λ x m. moved K s g x (S.all x m) };
        ordered = in_order s (λ p m. on p (f p m)) (ascending_rises (pair_key w heights) s u);
      }
    where
      moved : (a b : List ℕ) → ((p : ℕ) → p ∈ a → p ∈ b) → (x : Crossing) → x ∈ map cross a → x ∈ map cross b
      moved a b h x m =
          let (p, i, e) = map_member cross a m in
          subst (λ (z : Crossing). z ∈ map cross b) (sym e) (map_holds cross (h p i))
