-- The weight of each cell by the levels with a margin is the mask of its lowest neighbour. Where its mask has a place's bit, the entry there is the
-- neighbour's level, and the key is the neighbour's; elsewhere it is greater than the cell's own. So the least key is that of the cells on the tile.
-- Assumes nothing.
use mathlib.Core.Bool.{cond, false, true, ◌&&◌}
use mathlib.Core.List.Memᴰ.{head as in_head}
use mathlib.Core.List.Memᴰ.{tail as in_Tail}
use mathlib.Core.List.{[], List, ◌∷◌}
use mathlib.Core.Logic.{inl, inr, ◌⊎◌}
use mathlib.Core.Path.{ap, refl, subst, sym, ◌∙◌, ◌≡◌}
use Prim.Native.Nat.{min, ℕ, ◌%◌, ◌+◌, ◌<◌, ◌≤◌}
use native.Mathlib.Omega.{arith}
use lib.ListN.{length, get_or-eq_default}
use Rattle.first_receivers.specs.Weights.{first_is, key, least_key}
use Rattle.grid.proofs.Rules.{places-around, rule_by_lem}
use Rattle.grid.proofs.Window.{on_stands, stands_beside}
use Rattle.grid.specs.Masks.{bit_of, joins_at, mask_of}
use Rattle.grid.specs.Neighbours.{places_by}
use Rattle.grid.specs.Window.{around, beside, cell_at, cell_or, on_tile, Rows}
use Rattle.lists.proofs.Stretch.{stretch-length}
use Rattle.lists.proofs.Tests.{is, isnt, Known, known, lt_or_ge}
use Rattle.lists.specs.Lists.{at, fold, stretch, ◌∈◌}
use Rattle.lowest.proofs.LeastLevels.{least_mask}
use Rattle.lowest.proofs.Margins.{entry_stands, mask_bit, stretch-entry}
use Rattle.lowest.specs.Lowest.{entry_at, has_bit, key_of, Levelled, lowest_key, lowest_land, place_key, weight_at}
use Rattle.rules.specs.Ground.{is_outlet}
use Rattle.grid.specs.declared.Neighbours.{Neighbours}

-- the least of keys that agree at each place but where both are no less than the first one
fold-least : (f g : ℕ → ℕ) (first k : ℕ) (ps : List ℕ) → k ≤ first
    → ((p : ℕ) → p ∈ ps → (f p ≡ g p) ⊎ ((first ≤ f p) × (first ≤ g p)))
    → fold (λ j p. min j (f p)) k ps ≡ fold (λ j p. min j (g p)) k ps
fold-least f g first k [] l e = refl
fold-least f g first k (p ∷ ps) l e =
    ap (λ (x : ℕ). fold (λ j p. min j (f p)) x ps) (same (e p (in_head refl)))
    ∙ fold-least f g first (min k (g p)) ps (omega arith) (λ q m. e q (in_Tail m))
  where
    same : (f p ≡ g p) ⊎ ((first ≤ f p) × (first ≤ g p)) → min k (f p) ≡ min k (g p)
    same (inl q) = ap (min k) q
    same (inr (a, b)) = omega arith

module _ {N : Neighbours} {w : ℕ} {masks levels marks : List ℕ} (A : Levelled N w masks levels marks) where
  abbrev n : ℕ
  n = length masks

  -- the levels of the cells alone
  abbrev own : List ℕ
  own = stretch 65 n levels

  sized : length own ≡ n
  sized = stretch-length 65 n levels (omega (arith, A.margin))

  low : (c : ℕ) → at own c ≤ 16000000
  low c = go (lt_or_ge c n)
    where
      go : (c < n) ⊎ (n ≤ c) → at own c ≤ 16000000
      go (inl l) = let e = stretch-entry levels n c l in let f = A.lifted c l in omega arith
      go (inr l) = let e : at own c ≡ 0 = get_or-eq_default own 0 (rw sized l) in omega arith

  module _ (c : ℕ) (on : c < n) where
    -- what the mask says of a place
    told : (p : ℕ) → p ∈ around → has_bit (at masks c) (bit_of around p) ≡ joins_at w n (beside (places_by N) w) c p
    told p m = ap (λ (k : ℕ). has_bit k (bit_of around p)) (A.neighbours c on) ∙ mask_bit w n (beside (places_by N) w) c p m

    -- the keys by entries and by the cells that are taken for the places
    abbrev by_entry : ℕ → ℕ
    by_entry p = place_key levels (at masks c) (entry_at w (c + 65) p) (bit_of around p)

    abbrev by_cell : ℕ → ℕ
    by_cell p = key own (cell_or w n c p) (bit_of around p)

    agree : (p : ℕ) → p ∈ places_by N → Known (on_tile w n c p)
        → (by_entry p ≡ by_cell p) ⊎ ((key own c 0 ≤ by_entry p) × (key own c 0 ≤ by_cell p))
    agree p m (is t) =
        let i = places-around (rule_by_lem N) p m in
        let S = on_stands w n c p ((rule_by_lem N).within p m) A.grid.rows.wide t in
        let b : on_tile w n c p && beside (places_by N) w c (cell_at w c p) ≡ true = rw (t, stands_beside S m) in
        let e : at levels (entry_at w (c + 65) p) ≡ at own (cell_at w c p) =
        ap (at levels) (entry_stands p (cell_at w c p) i S) ∙ sym (stretch-entry levels n (cell_at w c p) S.on) in
        let l = low (cell_at w c p) in
        inl (rw (told p i ∙ b, t) (omega arith))
    agree p m (isnt t) =
        let i = places-around (rule_by_lem N) p m in
        let b : on_tile w n c p && beside (places_by N) w c (cell_at w c p) ≡ false = rw t in
        let l = low c in
        inr (rw (told p i ∙ b) (omega arith), rw t (omega arith))

    lowest-is : lowest_key levels w (c + 65) (at masks c) (places_by N) ≡ least_key own (cell_or w n c) c (places_by N)
    unfolding lowest_key
    lowest-is =
        ap (λ (k : ℕ). fold (λ j p. min j (by_entry p)) k (places_by N)) start
        ∙ fold-least by_entry by_cell (key own c 0) (key own c 0) (places_by N) (omega arith) (λ p m. agree p m (known (on_tile w n c p)))
      where
        start : key_of (at levels (c + 65)) 0 ≡ key own c 0
        start = let e = stretch-entry levels n c on in let l = low c in omega arith

    pub weight-mask : weight_at N levels w (c + 65) (at masks c) (at marks c) ≡ mask_of around w n (first_is (lowest_land N w n levels marks)) c
    unfolding weight_at
    weight-mask =
        ap (λ (k : ℕ). cond (is_outlet marks c) 0 (k % 256)) lowest-is
        ∙ sym (subst
        (λ (k : ℕ). mask_of around w k (first_is (lowest_land N w n levels marks)) c
        ≡ cond (is_outlet marks c) 0 (least_key own (cell_or w k c) c (places_by N) % 256))
        sized (least_mask N w own marks (subst (Rows w) (sym sized) A.grid.rows) low c (rw sized on)))
