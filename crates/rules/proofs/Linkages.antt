-- The receivers of the network are among those that a walk along links may be given: on a lawful land one cell receives to the other
-- exactly where the two are linked.
-- Assumes nothing.
use mathlib.Core.Bool.{false, not, true}
use mathlib.Core.List.{List}
use mathlib.Core.Logic.{inl, inr, ◌⊎◌}
use mathlib.Core.Path.{sym, ◌∙◌, ◌≡◌}
use Prim.Native.Nat.{ℕ, ◌<◌, ◌≤◌}
use native.Mathlib.Omega.{arith}
use lib.ListN.{length}
use borrow.Author.Tests.{eq-eqb, eqb-true, not-true}
use Rattle.grid.specs.Masks.{mask_of, Masks}
use Rattle.grid.specs.Window.{around, IsRule}
use Rattle.lists.proofs.Tab.{tab-at, tab-length}
use Rattle.lists.proofs.Tests.{and_both, and_left, and_right, or_cases, or_left, or_right, so_not}
use Rattle.lists.specs.Lists.{tab}
use Rattle.rules.proofs.CarvingLinks.{is_linked, linked_is}
use Rattle.rules.proofs.Draining.{receivers_drain}
use Rattle.rules.proofs.Lowest.{receivers_agree, receivers-beside}
use Rattle.rules.specs.Carving.{receiver, receivers}
use Rattle.rules.specs.Land.{Land, Rule}
use Rattle.rules.specs.Links.{Linkage, Linked, receives_either}
use Rattle.rules.specs.Network.{gives}
use Rattle.rules.specs.Tile.{Tile, tile_land}
use Rattle.rules.specs.Way.{Lawful}

module _ (L : Land) (W : Lawful L) where
  abbrev r : List ℕ
  r = receivers L

  gives_to : (c d : ℕ) → d < L.cells → L.outlet d ≡ false → receiver L d ≡ c → gives L r c d ≡ true
  gives_to c d k o e = and_both _ _ (so_not _ o) (eq-eqb _ _ (receivers_agree L d k ∙ e))

  to-gives : (c d : ℕ) → d < L.cells → gives L r c d ≡ true → (L.outlet d ≡ false) × (receiver L d ≡ c)
  to-gives c d k t =
      (not-true _ (and_left _ _ t), sym (receivers_agree L d k) ∙ eqb-true _ _ (and_right (not (L.outlet d)) _ t))

  pub linked_either : (c d : ℕ) → c < L.cells → d < L.cells → Linked L c d → receives_either L r c d ≡ true
  linked_either c d h k l = go (linked_is L W c d h k l)
    where
      go : ((L.outlet c ≡ false) × (receiver L c ≡ d)) ⊎ ((L.outlet d ≡ false) × (receiver L d ≡ c)) → receives_either L r c d ≡ true
      go (inl (o, e)) = or_left (gives L r d c) _ (gives_to d c h o e)
      go (inr (o, e)) = or_right (gives L r d c) _ (gives_to c d k o e)

  pub either_linked : (c d : ℕ) → c < L.cells → d < L.cells → L.solid c ≡ true → L.solid d ≡ true
      → receives_either L r c d ≡ true → Linked L c d
  either_linked c d h k s t e = go (or_cases _ _ e)
    where
      go : (gives L r d c ≡ true) ⊎ (gives L r c d ≡ true) → Linked L c d
      go (inl q) = is_linked L W c d h k s t (inl (to-gives d c h q))
      go (inr q) = is_linked L W c d h k s t (inr (to-gives c d k q))

-- masks that say the links of a lawful tile
pub network_linkage : (R : Rule) → IsRule R.places → (w : ℕ) (heights marks : List ℕ) → Tile w heights marks
    → Lawful (tile_land R w heights marks) → (links : List ℕ) → length heights ≤ length links
    → Masks around w (length heights) (receives_either (tile_land R w heights marks) (receivers (tile_land R w heights marks))) links
    → Linkage R w heights marks links (receivers (tile_land R w heights marks))
network_linkage R I w heights marks T W links fits M =
    record {
      is_rule = I;
      tile = T;
      fits_links = fits;
      drains = receivers_drain (tile_land R w heights marks) W (λ c s. let f = T.grid.few in omega arith);
      beside = receivers-beside (tile_land R w heights marks) W;
      masks = M;
    }

-- such masks there are, so that the walk can be called for every lawful tile
pub linkage_exists : (R : Rule) → IsRule R.places → (w : ℕ) (heights marks : List ℕ) → Tile w heights marks
    → Lawful (tile_land R w heights marks)
    → (links : List ℕ) × Linkage R w heights marks links (receivers (tile_land R w heights marks))
linkage_exists R I w heights marks T W =
    (masks, network_linkage R I w heights marks T W masks (let e = tab-length mask n in omega arith) (λ c h. tab-at mask n c 0 h))
  where
    n : ℕ
    n = length heights

    mask : ℕ → ℕ
    mask = mask_of around w n (receives_either (tile_land R w heights marks) (receivers (tile_land R w heights marks)))

    masks : List ℕ
    masks = tab n mask
