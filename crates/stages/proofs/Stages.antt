-- What one stage of the network leaves is what the next one asks for, and what the last one leaves is the network. Over any rule, but for
-- weights and passes, which are those of the neighbours asked for.
-- Assumes nothing.
use mathlib.Core.Bool.{Bool}
use mathlib.Core.List.{List}
use mathlib.Core.Path.{ap, refl, subst, sym, ◌∙◌, ◌≡◌}
use Prim.Native.Nat.{ℕ, ◌≤◌}
use native.Mathlib.Omega.{arith}
use lib.ListN.{drop, length, take}
use Rattle.basins.specs.Jumps.{FirstReceivers}
use Rattle.drainage.proofs.Ordered.{ordered_written}
use Rattle.drainage.specs.Giving.{Ordered}
use Rattle.first_receivers.proofs.Weighing.{weights_weighed}
use Rattle.first_receivers.specs.Weights.{first_is, Weighed}
use Rattle.grid.specs.Masks.{joined, mask_of}
use Rattle.grid.specs.Window.{around}
use Rattle.links.proofs.FromWeights.{weights_leading}
use Rattle.links.proofs.PairNetwork.{pairs_linkage, tile_addable}
use Rattle.links.specs.Leads.{Leading}
use Rattle.links.specs.PairLinks.{Addable, with_pairs}
use Rattle.lists.proofs.Filled.{filled_at, filled-by, filled-length, filled_over, filled-take}
use Rattle.lists.specs.Lists.{at, filled, tab}
use Rattle.manners.proofs.Walks.{tile_drains}
use Rattle.passes.specs.Choosing.{Choosable, ChosenPairs}
use Rattle.rules.proofs.Manners.{manner_network}
use Rattle.rules.proofs.SixLists.{six_lists_same}
use Rattle.rules.specs.Carving.{receivers}
use Rattle.rules.specs.FirstWays.{basin, first_receiver}
use Rattle.rules.specs.Land.{Land, Rule, rule_by}
use Rattle.rules.specs.Links.{Linkage}
use Rattle.rules.specs.Network.{drainage, lifted_network, lifted_network_in, Network, order, receivers_by}
use Rattle.rules.specs.NodeLabels.{label_of}
use Rattle.rules.specs.SixLists.{onto, six_lists}
use Rattle.rules.specs.Tile.{LawfulTile, Tile, tile_land}
use Rattle.squares.specs.Listing.{pairs_for}
use Rattle.stages.specs.Linking.{Linkable}
use Rattle.walk.specs.Walk.{Lent, WalkedWhole}
use Rattle.grid.specs.declared.Neighbours.{Neighbours}
use Rattle.rules.specs.declared.Manner.{Manner}

-- weights, as first receivers and links ask for them
module _ (N : Neighbours) (w : ℕ) (heights marks : List ℕ) (T : Tile w heights marks) where
  abbrev mask : ℕ → ℕ
  mask = mask_of around w (length heights) (first_is (tile_land (rule_by N) w heights marks))

  pub weighed : {weights : List ℕ} (old : List ℕ) → weights ≡ filled mask (length heights) old
      → Weighed N w (length heights) heights marks weights
  weighed {weights} old e = weights_weighed N w heights marks T old weights e

  pub leading : {weights : List ℕ} (old : List ℕ) → length heights ≤ length weights → weights ≡ filled mask (length heights) old
      → Leading N w (length heights) (first_receiver (tile_land (rule_by N) w heights marks)) weights
  leading {weights} old room e = weights_leading N w heights marks T weights room (weighed old e)

module _ {R : Rule} {w : ℕ} {heights marks : List ℕ} (T : LawfulTile R w heights marks) where
  abbrev land : Land
  land = tile_land R w heights marks

  abbrev n : ℕ
  n = length heights

  abbrev linked : ℕ → ℕ
  linked = mask_of around w n (joined (first_receiver land))

  -- first receivers, as basins ask for them
  pub firsts_are : {b : List ℕ} (basins : List ℕ) → n ≤ length basins → b ≡ filled (first_receiver land) n basins → FirstReceivers land n b
  firsts_are {b} basins h e =
      record {
        cells = refl;
        few = T.tile.grid.few;
        room = let l : length b ≡ length basins = ap length e ∙ filled-length (first_receiver land) n basins h in omega arith;
        firsts = λ c i. ap (λ (z : List ℕ). at z c) e ∙ filled_at (first_receiver land) n basins c i;
        whole = λ c i. T.whole c;
      }

  -- labels, as choosing asks for them, and links
  labels_are : {l : List ℕ} (labels : List ℕ) → l ≡ filled (label_of land) n labels → take n l ≡ tab n (label_of land)
  labels_are labels e = filled-take (label_of land) n labels e

  pub linkable : {l k : List ℕ} (labels links : List ℕ) → l ≡ filled (label_of land) n labels → n ≤ length links
      → k ≡ filled linked n links → Linkable R w heights marks (take n l) k
  linkable {l} {k} labels links e room f =
      record {
        land = T;
        labels_are = labels_are labels e;
        room = let s : length k ≡ length links = ap length f ∙ filled-length linked n links room in omega arith;
        masks = λ c h. ap (λ (z : List ℕ). at z c) f ∙ filled_at linked n links c h;
      }

-- after the walk in the manner asked for
module _ {R : Rule} {w : ℕ} {heights marks : List ℕ} (T : LawfulTile R w heights marks) (M : Manner) {s s' : Lent}
    (v : WalkedWhole (tile_land R w heights marks) (receivers_by M (tile_land R w heights marks)) s s') where
  abbrev tile : Land
  tile = tile_land R w heights marks

  abbrev r : List ℕ
  r = receivers_by M tile

  -- what the walk leaves is what drainage asks for
  pub ordered : (k : ℕ) → k ≡ length heights → Ordered tile r k s'.order s'.receivers
  ordered k z =
      subst (λ (m : ℕ). Ordered tile r m s'.order s'.receivers) (sym z)
      (ordered_written tile r (tile_drains T M) T.tile.grid.few (λ c h. T.whole c) s'.receivers (drop (length r) s.receivers)
      v.receivers_are s'.order (drop (length (order tile r)) s.order) v.order_is)

  -- all stages together: drainage takes the place of the walk's stack
  pub worked : {b d : List ℕ} (basins water : List ℕ) (k : ℕ) → k ≡ length heights → b ≡ filled (basin tile) (length heights) basins
      → d ≡ filled (drainage tile water r) k s'.stack
      → six_lists s'.receivers b s'.order s'.levels d s'.wets
      ≡ onto (lifted_network_in M tile water) (six_lists s.receivers basins s.order s.levels s.stack s.wets)
  unfolding lifted_network filled
  worked basins water k z f j =
      let n : ℕ = length heights in
      six_lists_same
      v.receivers_are
      f
      v.order_is
      v.levels_are
      (j ∙ ap (λ (m : ℕ). filled (drainage tile water r) m s'.stack) z ∙ filled_over (drainage tile water r) n s'.stack s.stack v.past)
      v.wets_are
      ∙ ap (λ (net : Network ℕ). onto net (six_lists s.receivers basins s.order s.levels s.stack s.wets))
      (sym (manner_network M tile T.lawful water))

-- masks that say the first receivers, with the chosen pairs added, are the links of the network
module _ (N : Neighbours) {w : ℕ} {heights marks labels links : List ℕ} (K : Linkable (rule_by N) w heights marks labels links) where
  abbrev L : Land
  L = tile_land (rule_by N) w heights marks

  abbrev firsts : ℕ → ℕ → Bool
  firsts = joined (first_receiver L)

  pub choosable : (list : List ℕ) → pairs_for N (length heights) ≤ length list → Choosable N w heights marks labels list
  choosable list h = record { tile = K.land.tile; lawful = K.land.lawful; labels_are = K.labels_are; room = h }

  say : links ≡ filled (mask_of around w (length heights) firsts) (length heights) links
  say = filled-by (mask_of around w (length heights) firsts) (length heights) links links K.room refl K.masks (λ c h. refl)

  module _ (pairs : List ℕ) (C : ChosenPairs N w heights marks pairs) where
    pub addable : Addable w (length heights) firsts pairs links
    addable =
        tile_addable (rule_by N) K.land.is_rule w heights marks K.land.tile pairs C.chosen C.neighbours (first_receiver L) (λ c h. refl)
        links links K.room say

    pub linkage : {k : List ℕ} → k ≡ filled (mask_of around w (length heights) (with_pairs w pairs firsts)) (length heights) links
        → Linkage (rule_by N) w heights marks k (receivers L)
    linkage {k} e =
        pairs_linkage (rule_by N) K.land.is_rule w heights marks K.land.tile pairs C.chosen C.neighbours (first_receiver L) (λ c h. refl)
        K.land.lawful K.land.whole links k K.room e
