-- Six lists: when they hold n entries each, and what their first entries are once a network stands at their start.
-- Assumes nothing.
use mathlib.Core.Bool.{true}
use mathlib.Core.List.{List}
use mathlib.Core.Path.{ap, refl, sym, ◌∙◌, ◌≡◌}
use Prim.Native.Nat.{ℕ, ◌<◌, ◌≤◌}
use native.Mathlib.Nat.{le_of_eq}
use native.Mathlib.Omega.{arith}
use lib.IntN.{pos}
use lib.ListN.{get_or, length, length-map, length-take, take}
use lib.Seq.{take_all}
use Rattle.lists.proofs.Map.{map_at}
use Rattle.lists.proofs.Overwrite.{overwrite_again, overwrite-take}
use Rattle.lists.proofs.Tab.{tab-at, tab-length}
use Rattle.lists.specs.Lists.{tab}
use Rattle.rules.proofs.WholeOrders.{order_whole}
use Rattle.rules.specs.FirstWays.{basin}
use Rattle.rules.specs.Ground.{dropped}
use Rattle.rules.specs.Land.{Land}
use Rattle.rules.specs.Network.{drainage, drop_levels, level, lifted_network, Network, network_of, wet}
use Rattle.rules.specs.SixLists.{first_of, Full, Holds, onto, shortest}
use Rattle.rules.specs.Way.{Drains}

module _ {A : Type 0} where
  -- a list is at least as long as its first entries
  pub take_holds : (n : ℕ) (l : List A) {first : List A} → take n l ≡ first → length first ≡ n → n ≤ length l
  take_holds n l e f = omega (arith, length-take n l, ap length e)

module _ {Level : Type 0} where
  -- six lists hold n entries exactly if the shortest does
  pub shortest_holds : (n : ℕ) (s : Network Level) → n ≤ shortest s → Holds n s
  shortest_holds n s h =
      record {
        receivers_hold = omega arith;
        basins_hold = omega arith;
        order_holds = omega arith;
        levels_hold = omega arith;
        drainage_holds = omega arith;
        wet_holds = omega arith;
      }

  -- six lists that are equal, one by one
  pub six_lists_same : {s t : Network Level} → s.receivers ≡ t.receivers → s.basins ≡ t.basins → s.order ≡ t.order
      → s.levels ≡ t.levels → s.drainage ≡ t.drainage → s.wet ≡ t.wet → s ≡ t
  six_lists_same r b o l d t =
      λ i. record { receivers = r i; basins = b i; order = o i; levels = l i; drainage = d i; wet = t i }

  -- the first n entries of six lists that a network of n cells stands at the start of
  pub first_of_onto : {s : Network Level} (n : ℕ) (new old : Network Level) → Full n new → s ≡ onto new old → first_of n s ≡ new
  first_of_onto n new old F e =
      ap (first_of n) e
      ∙ six_lists_same
      (overwrite-take new.receivers old.receivers n F.receivers_full refl)
      (overwrite-take new.basins old.basins n F.basins_full refl)
      (overwrite-take new.order old.order n F.order_full refl)
      (overwrite-take new.levels old.levels n F.levels_full refl)
      (overwrite-take new.drainage old.drainage n F.drainage_full refl)
      (overwrite-take new.wet old.wet n F.wet_full refl)

  -- and of six lists of n entries: they themselves
  pub first_of_whole : (n : ℕ) (s : Network Level) → Full n s → first_of n s ≡ s
  first_of_whole n s F =
      six_lists_same
      (take_all n s.receivers (le_of_eq F.receivers_full))
      (take_all n s.basins (le_of_eq F.basins_full))
      (take_all n s.order (le_of_eq F.order_full))
      (take_all n s.levels (le_of_eq F.levels_full))
      (take_all n s.drainage (le_of_eq F.drainage_full))
      (take_all n s.wet (le_of_eq F.wet_full))

  -- a network over another of as many cells
  pub onto_again : (n : ℕ) (new mid old : Network Level) → Full n new → Full n mid → onto new (onto mid old) ≡ onto new old
  onto_again n new mid old F G =
      six_lists_same
      (overwrite_again new.receivers mid.receivers old.receivers (G.receivers_full ∙ sym F.receivers_full))
      (overwrite_again new.basins mid.basins old.basins (G.basins_full ∙ sym F.basins_full))
      (overwrite_again new.order mid.order old.order (G.order_full ∙ sym F.order_full))
      (overwrite_again new.levels mid.levels old.levels (G.levels_full ∙ sym F.levels_full))
      (overwrite_again new.drainage mid.drainage old.drainage (G.drainage_full ∙ sym F.drainage_full))
      (overwrite_again new.wet mid.wet old.wet (G.wet_full ∙ sym F.wet_full))

  -- six lists are at least as long as their first entries
  pub first_of_holds : {net : Network Level} (n : ℕ) (s : Network Level) → first_of n s ≡ net → Full n net → Holds n s
  first_of_holds n s e F =
      record {
        receivers_hold = take_holds n s.receivers (ap (λ (t : Network Level). t.receivers) e) F.receivers_full;
        basins_hold = take_holds n s.basins (ap (λ (t : Network Level). t.basins) e) F.basins_full;
        order_holds = take_holds n s.order (ap (λ (t : Network Level). t.order) e) F.order_full;
        levels_hold = take_holds n s.levels (ap (λ (t : Network Level). t.levels) e) F.levels_full;
        drainage_holds = take_holds n s.drainage (ap (λ (t : Network Level). t.drainage) e) F.drainage_full;
        wet_holds = take_holds n s.wet (ap (λ (t : Network Level). t.wet) e) F.wet_full;
      }

-- the network of a land without holes has an entry for each cell
pub lifted_network_full : (L : Land) (water r : List ℕ) → Drains L r → ((c : ℕ) → c < L.cells → L.solid c ≡ true)
    → Full L.cells (lifted_network L water r)
unfolding lifted_network
lifted_network_full L water r D whole =
    record {
      receivers_full = D.full;
      basins_full = tab-length (basin L) L.cells;
      order_full = order_whole L r D whole;
      levels_full = tab-length (level L r) L.cells;
      drainage_full = tab-length (drainage L water r) L.cells;
      wet_full = tab-length (wet L r) L.cells;
    }

-- dropped levels are as many
pub drop_levels_full : {n : ℕ} {s : Network ℕ} → Full n s → Full n (drop_levels s)
drop_levels_full {n} {s} F =
    record {
      receivers_full = F.receivers_full;
      basins_full = F.basins_full;
      order_full = F.order_full;
      levels_full = length-map s.levels dropped ∙ F.levels_full;
      drainage_full = F.drainage_full;
      wet_full = F.wet_full;
    }

-- so the network too, with its levels dropped
pub network_of_full : (L : Land) (water r : List ℕ) → Drains L r → ((c : ℕ) → c < L.cells → L.solid c ≡ true) → Full L.cells (network_of L water r)
unfolding network_of
network_of_full L water r D whole = drop_levels_full (lifted_network_full L water r D whole)

-- and each of its levels is rule 7's, dropped
pub network_of-level : (L : Land) (water r : List ℕ) (c : ℕ) → c < L.cells → get_or (network_of L water r).levels c (pos 0) ≡ dropped (level L r c)
unfolding network_of lifted_network
network_of-level L water r c h =
    map_at dropped (tab L.cells (level L r)) c 0 (pos 0) (rw (tab-length (level L r) L.cells) h)
    ∙ ap dropped (tab-at (level L r) L.cells c 0 h)
