-- The cells that receive to a cell, its givers, and their entries. Receivers lead to neighbours, so givers are at the places around. A giver's
-- links are the bits of its own givers and one more, the bit back: two cells don't receive to each other. So what a visit pushes are the
-- givers' entries, by ascending number.
-- Assumes nothing.
use Rattle.std.proofs.Common.{◌≡◌, ℕ, suc, ◌+◌, ◌-◌, ◌*◌, ◌/◌, ◌%◌, ◌<◌, Bool, true, false, not, List, map, length, drop, sym, ap, ◌∙◌, subst, arith}
use Rattle.std.proofs.Common.{get_or-drop, eq-eqb, ne_eqb, eqb-true}
use lib.ListN.{length-map}
use borrow.Author.Tests.{not-true}
use Rattle.grid.proofs.AtPlaces.{joined_at, joined-places}
use Rattle.grid.proofs.Masks.{mask_more, mask_small}
use Rattle.grid.proofs.Rules.{around_rule, beside-around}
use Rattle.grid.proofs.Window.{beside_mutual, on_stands, stands_back, stands_number}
use Rattle.grid.specs.Masks.{bit_of, joins_at, mask_of}
use Rattle.grid.specs.Window.{around, beside, cell_at, on_tile, Rows, Stands}
use Rattle.lists.proofs.Tests.{and_both, and_left, and_right, never, or_left, so_not}
use Rattle.lists.specs.Lists.{at, flat, ◌∈◌}
use Rattle.rules.proofs.Orders.{giver_runs, giver_solid, Gives}
use Rattle.rules.proofs.Steps.{once_only}
use Rattle.rules.specs.Land.{Land, Rule}
use Rattle.rules.specs.Links.{Linkage, receives_either}
use Rattle.rules.specs.Network.{givers, gives}
use Rattle.rules.specs.Tile.{tile_land}
use Rattle.rules.specs.Way.{Drains}
use Rattle.walk.proofs.Entries.{shifted-is}
use Rattle.walk.proofs.Pushing.{kept_of-length, kept_of_tests}
use Rattle.walk.specs.Climb.{beside_entry, entry_of, links_at, ones, pushes}
use Rattle.walk.specs.Walk.{Margin}

module _ {R : Rule} {w : ℕ} {heights marks links r : List ℕ} (M : Margin R w heights marks links r) (c : ℕ) (on : c < length heights) where
  abbrev K : Linkage R w heights marks (drop 65 links) r
  K = M.inside

  abbrev L : Land
  L = tile_land R w heights marks

  abbrev n : ℕ
  n = length heights

  abbrev rows : Rows w n
  rows = K.tile.grid.rows

  abbrev D : Drains L r
  D = K.drains

  abbrev G : ℕ → ℕ → Bool
  G = gives L r

  gives-is : (a d : ℕ) → d < n → G a d ≡ true → Gives L r D d a
  gives-is a d h t = record { on = h; inner = not-true _ (and_left _ _ t); to = eqb-true _ _ (and_right (not (L.outlet d)) _ t) }

  -- a giver is a neighbour by the rule
  pub gives-beside : (x : ℕ) → x < n → G c x ≡ true → beside R.places w c x ≡ true
  gives-beside x h t =
      let g = gives-is c x h t in
      let b = K.beside x h (giver_solid L r D c x on g) g.inner in
      let s = subst (λ (y : ℕ). L.beside x y ≡ true) g.to b in
      beside_mutual R.places w x c K.is_rule (and_right (L.solid c) _ (and_right (L.solid x) _ s))

  givers-places : givers L r c ≡ flat (joined_at w n G c) around
  unfolding givers
  givers-places = joined-places w n G c rows around_rule on (λ x h t. beside-around K.is_rule w c x (gives-beside x h t))

  -- a giver's links
  module _ (d : ℕ) (g : Gives L r D d c) where
    not_back : G d c ≡ false
    not_back = never (G d c) (λ t.
        let j = D.ways d g.on (giver_solid L r D c d on g) in
        let c-runs = giver_runs L r D c j.1 (gives-is d c on t) in
        let q : suc (suc j.0) ≡ j.0 = once_only L (at r) (giver_runs L r D d c-runs g) j.1 in
        omega arith)

    links_back : (p : ℕ) → p ∈ around → Stands w n c p d
        → mask_of around w n G d + bit_of around (8 - p) ≡ mask_of around w n (receives_either L r) d
    links_back p m S =
        mask_more rows around_rule d G (receives_either L r) (8 - p) c (around_rule.opposite p m) (stands_back S on)
        (or_left _ _ (and_both _ _ (so_not _ g.inner) (eq-eqb _ _ g.to))) not_back
        (λ q x i T z. rw (g.inner, ne_eqb (at r d) x (λ e. z (sym e ∙ g.to))))

    beside_entry_lem : (p : ℕ) → p ∈ around → Stands w n c p d → beside_entry w links c p ≡ entry_of w L r d
    beside_entry_lem p m S =
        let u = stands_number S in
        let i : links_at w c p ≡ 65 + d = omega arith in
        let a : at links (links_at w c p) ≡ mask_of around w n (receives_either L r) d =
        ap (at links) i ∙ sym (get_or-drop 65 links d 0) ∙ K.masks d g.on in
        let s : at links (links_at w c p) < 256 =
        subst (λ (x : ℕ). x < 256) (sym a) (mask_small rows around_rule d (receives_either L r)) in
        let few = K.tile.grid.few in let h = g.on in
        let way : d + (w + 1) ≡ c + (p / 3 * w + p % 3) = omega arith in
        rw g.to
        (shifted-is c d w (p / 3 * w + p % 3) (bit_of around (8 - p)) (mask_of around w n G d) (at links (links_at w c p))
        (omega arith) (omega arith) K.tile.grid.narrow way s (a ∙ sym (links_back p m S)))

  pub pushes-givers : pushes w links c (mask_of around w n G c) ≡ map (entry_of w L r) (givers L r c)
  unfolding pushes mask_of
  pushes-givers =
      kept_of_tests (beside_entry w links c) (entry_of w L r) (cell_at w c) (joins_at w n G c) around
      (λ p m t.
      let S = on_stands w n c p (around_rule.within p m) rows.wide (and_left (on_tile w n c p) _ t) in
      beside_entry_lem (cell_at w c p) (gives-is c (cell_at w c p) S.on (and_right (on_tile w n c p) _ t)) p m S)
      ∙ ap (map (entry_of w L r)) (sym givers-places)

  -- as many as the mask has bits
  pub givers-count : length (givers L r c) ≡ ones around (mask_of around w n G c)
  unfolding pushes
  givers-count =
      sym (length-map (givers L r c) (entry_of w L r)) ∙ ap length (sym pushes-givers)
      ∙ kept_of-length (beside_entry w links c) around (mask_of around w n G c)
