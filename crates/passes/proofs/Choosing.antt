-- Listed, sorted, picked: what each asks is what the one before gives, and together they give the chosen passes; no other list of pairs
-- is one.
-- Assumes nothing.
use mathlib.Core.List.{List, ◌++◌}
use mathlib.Core.Path.{ap, refl, ◌∙◌, ◌≡◌}
use Prim.Native.Nat.{ℕ, ◌<◌, ◌≤◌}
use native.Mathlib.Omega.{arith}
use lib.ListN.{drop, length, length-append, take}
use lib.Seq.{length-take-le, take-append-le, take_at}
use Rattle.lists.proofs.Keep.{keep-map, keep_member}
use Rattle.lists.proofs.Map.{map-one}
use Rattle.lists.proofs.Tab.{tab-at, tab-length}
use Rattle.lists.specs.Lists.{at, keep}
use Rattle.pairs.proofs.PairOrder.{pair_one, sorted_enough}
use Rattle.pairs.specs.Pairs.{crossing_of, Pairs}
use Rattle.passes.proofs.IsChosen.{enough_chosen}
use Rattle.passes.specs.Choosing.{Choosable, ChosenPairs}
use Rattle.passes.specs.Picking.{is_chosen, Pickable, Picked}
use Rattle.rules.proofs.EnoughCrossings.{all-chosen_same}
use Rattle.rules.proofs.NodeLabels.{label_small, labels_tell}
use Rattle.rules.specs.Land.{Land, rule_by}
use Rattle.rules.specs.NodeLabels.{Labelled, label_of}
use Rattle.rules.specs.Tile.{tile_land}
use Rattle.sorting.specs.SortedPairs.{Sortable, SortedPairs}
use Rattle.squares.proofs.Packing.{pairs-most}
use Rattle.squares.specs.Listing.{Listable, Listed}
use Rattle.grid.specs.declared.Neighbours.{Neighbours}

module _ {N : Neighbours} {w : ℕ} {heights marks labels list : List ℕ} (C : Choosable N w heights marks labels list) where
  abbrev L : Land
  L = tile_land (rule_by N) w heights marks

  long : length labels ≡ length heights
  long = ap length C.labels_are ∙ tab-length (label_of L) (length heights)

  told : Labelled (tile_land (rule_by N) w heights marks) labels
  told = labels_tell L C.lawful labels (λ c h. refl) C.labels_are

  pub listable : Listable N w heights labels list
  listable = record { marks = marks; tile = C.tile; sized = long; labelled = told; room = C.room }

  -- l₁ is the list once k pairs are listed
  module _ {l₁ : List ℕ} {k : ℕ} (P : Listed N w heights labels l₁ k) (same : length l₁ ≡ length list) where
    pub long_listed : length (take k l₁) ≡ k
    long_listed = length-take-le k l₁ (omega (arith, same, C.room, P.within))

    pub sortable : Sortable w heights (take k l₁)
    sortable =
        record {
          wide = C.tile.grid.rows.wide;
          narrow = C.tile.grid.narrow;
          few = C.tile.grid.few;
          lifted = C.tile.lifted;
          neighbours = P.neighbours;
          short = omega (arith, long_listed, P.within, pairs-most N (length heights), C.tile.grid.few);
          ascending = P.ascending;
        }

    -- s is the listed part once it is sorted
    module _ {s : List ℕ} (S : SortedPairs w heights (take k l₁) s) (kept : length s ≡ length (take k l₁)) where
      sorted_part : take k (s ++ drop k l₁) ≡ s
      sorted_part = take_at s (drop k l₁) k (kept ∙ long_listed)

      pub long_sorted : length (take k (s ++ drop k l₁)) ≡ k
      long_sorted = ap length sorted_part ∙ kept ∙ long_listed

      neighbours : Pairs w (length heights) s
      neighbours p m = P.neighbours p (S.only p m)

      small : (c : ℕ) → c < length labels → at labels c ≤ 4096
      small c h =
          let h' : c < length heights = omega (arith, long) in
          let e : at labels c ≡ label_of L c = ap (λ (l : List ℕ). at l c) C.labels_are ∙ tab-at (label_of L) (length heights) c 0 h' in
          omega (arith, e, label_small L C.lawful c h' refl, C.tile.grid.few)

      sorted_pickable : Pickable (crossing_of w) (tile_land (rule_by N) w heights marks) labels s
      sorted_pickable =
          record {
            cells = long;
            few = omega (arith, long, C.tile.grid.few);
            small = small;
            labelled = told;
            enough =
                sorted_enough (rule_by N) w heights marks C.tile (take k l₁) s P.neighbours (P.suffices marks C.tile told) S.only S.all
                S.ascending;
          }

      pub pickable : Pickable (crossing_of w) (tile_land (rule_by N) w heights marks) labels (take k (s ++ drop k l₁))
      pickable = rw sorted_part sorted_pickable

      -- t is that part once m pairs of it are picked
      module _ {t : List ℕ} {m : ℕ} (Q : Picked (crossing_of w) (tile_land (rule_by N) w heights marks) (take k (s ++ drop k l₁)) t m)
          (long-t : length t ≡ length (take k (s ++ drop k l₁))) where
        pub chosen_room : m ≤ length (t ++ drop k (s ++ drop k l₁))
        chosen_room = omega (arith, Q.within, long-t, length-append t (drop k (s ++ drop k l₁)))

        -- the picked pairs are those of the sorted ones that are chosen
        picked : take m (t ++ drop k (s ++ drop k l₁)) ≡ keep (λ p. is_chosen L (crossing_of w p)) s
        picked =
            take-append-le m t (drop k (s ++ drop k l₁)) (omega (arith, Q.within, long-t))
            ∙ Q.kept
            ∙ ap (keep (λ p. is_chosen L (crossing_of w p))) sorted_part

        pub chosen-pairs : ChosenPairs N w heights marks (take m (t ++ drop k (s ++ drop k l₁)))
        chosen-pairs =
            rw picked (record {
              chosen = rw (keep-map (crossing_of w) (is_chosen L) s) (enough_chosen L sorted_pickable.enough);
              neighbours = λ p i. neighbours p (keep_member (λ q. is_chosen L (crossing_of w q)) s i).0;
            })

-- a tile's chosen passes are one list of pairs: they have one order, and a crossing has one pair
pub chose_same : {N : Neighbours} {w : ℕ} {heights marks a b : List ℕ} → ChosenPairs N w heights marks a
    → ChosenPairs N w heights marks b → a ≡ b
chose_same {N} {w} {heights} {marks} {a} {b} A B =
    map-one (crossing_of w) a b
    (λ p q i j e. pair_one w (length heights) p q (A.neighbours p i) (B.neighbours q j) e)
    (all-chosen_same (tile_land (rule_by N) w heights marks) A.chosen B.chosen)
