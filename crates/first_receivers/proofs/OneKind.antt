-- Places of one kind: of two ways down to them the one to the lower cell is the steeper. The least of a cell's own key and of theirs says the
-- lowest cell of that kind, and of equally low ones the first. Where all the rule's places are of one kind, it leads to the first receiver.
-- Assumes nothing.
use Rattle.std.proofs.Common.{◌≡◌, ℕ, ◌/◌, ◌%◌, ◌<◌, ◌≤◌, false, ◌⊎◌, List, length, sym, ap, subst, inl, inr, arith}
use Rattle.first_receivers.proofs.LeastKeys.{LeastOf}
use Rattle.first_receivers.proofs.Winners.{none_first, Ways, winner_first}
use Rattle.first_receivers.specs.Weights.{beside, itself, key, Placed}
use Rattle.grid.proofs.Corners.{bit_range}
use Rattle.grid.proofs.Masks.{bit_ascends}
use Rattle.grid.proofs.Rules.{around_rule}
use Rattle.grid.specs.Masks.{bit_of}
use Rattle.grid.specs.Neighbours.{places_by}
use Rattle.grid.specs.Window.{around, Stands}
use Rattle.lists.specs.Lists.{at, ◌∈◌}
use Rattle.rules.specs.FirstWays.{first_receiver}
use Rattle.rules.specs.Land.{Land, Rule}
use Rattle.rules.specs.Tile.{tile_land}
use Rattle.grid.specs.declared.Neighbours.{Neighbours}

-- x is what is taken for the places: the cell there, where the tile has one
pub record OneKind (w : ℕ) (heights : List ℕ) (c : ℕ) (slope : ℕ → ℕ → ℕ) (x : ℕ → ℕ) (kind : List ℕ) : Type 0 where
  pub near : (p : ℕ) → p ∈ kind → p ∈ around
  pub real : (p d : ℕ) → p ∈ kind → Stands w (length heights) c p d → x p ≡ d
  pub no_lower : (q d p e : ℕ) → q ∈ kind → p ∈ kind → at heights e ≤ at heights d → slope q d ≤ slope p e
  pub lower : (q d p e : ℕ) → q ∈ kind → p ∈ kind → at heights e < at heights c → at heights e < at heights d → slope q d < slope p e

module _ {w : ℕ} {heights : List ℕ} {c : ℕ} {slope : ℕ → ℕ → ℕ} {x : ℕ → ℕ} {kind : List ℕ} (O : OneKind w heights c slope x kind)
    {k : ℕ} (K : LeastOf heights c x kind k) where
  abbrev n : ℕ
  n = length heights

  abbrev h : ℕ → ℕ
  h = at heights

  -- a cell of this kind is no lower than the key's
  pub kind_low : (q d : ℕ) → q ∈ kind → Stands w n c q d → k / 256 ≤ h d
  kind_low q d i S =
      let a = bit_range q (O.near q i) in let b = K.all q i in
      let g : h (x q) ≡ h d = ap h (O.real q d i S) in
      omega arith

  -- no key of this kind but the cell's own
  pub kind_none : k ≡ key heights c 0 → (q d : ℕ) → q ∈ kind → Stands w n c q d → h c ≤ h d
  kind_none e q d i S = let l = kind_low q d i S in omega arith

  -- the key is that of place p
  module _ (p : ℕ) (m : p ∈ kind) (e : k ≡ key heights (x p) (bit_of around p)) where
    pub kind_key : (k / 256 ≡ h (x p)) × (k % 256 ≡ bit_of around p) × (h (x p) < h c)
    kind_key = let r = bit_range p (O.near p m) in let o = K.own in (omega arith, omega arith, omega arith)

    -- no way to this kind is steeper than the one to p, and none as steep at a lesser place
    pub kind_slope : (q d : ℕ) → q ∈ kind → Stands w n c q d → (slope q d ≤ slope p (x p)) × (q < p → slope q d < slope p (x p))
    kind_slope q d i S =
        let (high, bit, low) = kind_key in
        let a = bit_range p (O.near p m) in let b = bit_range q (O.near q i) in
        let l = K.all q i in
        let g : h (x q) ≡ h d = ap h (O.real q d i S) in (
          O.no_lower q d p (x p) i m (omega arith),
          λ s. let u = bit_ascends around around_rule.ascending (O.near q i) (O.near p m) s in O.lower q d p (x p) i m low (omega arith),
        )

    -- its cell is on the tile, if only the cell itself is taken where there is none
    pub kind_real : (x p ≡ c) ⊎ Stands w n c p (x p) → Stands w n c p (x p)
    kind_real (inl q) = let l = kind_key.2 in let f = ap h q in absurd (omega arith)
    kind_real (inr S) = S

-- all the rule's places are of one kind
module _ {R : Rule} {w : ℕ} {heights : List ℕ} (marks : List ℕ) {c : ℕ} {slope : ℕ → ℕ → ℕ} (W : Ways R w heights c slope)
    (inner : (tile_land R w heights marks).outlet c ≡ false) (x : ℕ → ℕ) (O : OneKind w heights c slope x R.places) where
  abbrev L : Land
  L = tile_land R w heights marks

  pub kind_placed : (N : Neighbours) → ((p : ℕ) → p ∈ R.places → p ∈ places_by N)
      → ((p : ℕ) → p ∈ R.places → (x p ≡ c) ⊎ Stands w (length heights) c p (x p))
      → {k : ℕ} → LeastOf heights c x R.places k → Placed N w (length heights) c (first_receiver L c) (k % 256)
  kind_placed N asked stands {k} K = go K.is
    where
      go : (k ≡ key heights c 0) ⊎ ((p : ℕ) × (p ∈ R.places) × (k ≡ key heights (x p) (bit_of around p)))
          → Placed N w (length heights) c (first_receiver L c) (k % 256)
      go (inl e) = itself {k = k % 256} (none_first marks W inner (kind_none O K e)) (omega arith)
      go (inr (p, m, e)) =
          let (high, bit, low) = kind_key O K p m e in
          let S = kind_real O K p m e (stands p m) in
          beside {k = k % 256} (asked p m)
          (subst (Stands w (length heights) c p) (sym (winner_first marks W inner (record {
            place = m;
            stands = S;
            falls = low;
            most = λ q d i Q. (kind_slope O K p m e q d i Q).0;
            first = λ q d i Q. (kind_slope O K p m e q d i Q).1;
          }))) S) bit
