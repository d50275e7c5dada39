-- The least of a cell's own key and of those at places: no other is less, and it is one of them.
-- Assumes nothing.
use Rattle.std.proofs.Common.{◌≡◌, ℕ, ◌<◌, ◌≤◌, min, ◌⊎◌, List, [], ◌∷◌, sym, refl, subst, inl, inr, arith}
use mathlib.Core.List.Memᴰ.{cases_cons as in-cases}
use mathlib.Core.List.Memᴰ.{head as in_head}
use mathlib.Core.List.Memᴰ.{not-nil as in-none}
use mathlib.Core.List.Memᴰ.{tail as in_Tail}
use Rattle.first_receivers.specs.Weights.{key, least_key}
use Rattle.grid.specs.Masks.{bit_of}
use Rattle.grid.specs.Window.{around}
use Rattle.lists.proofs.Tests.{lt_or_ge}
use Rattle.lists.specs.Lists.{fold, ◌∈◌}

-- the least of a cell's key and those of the cells x taken for places
module _ (heights : List ℕ) (c : ℕ) (x : ℕ → ℕ) where
  abbrev key_at : ℕ → ℕ
  key_at p = key heights (x p) (bit_of around p)

  -- k is the cell's own key or that of one of the places, and no other is less
  pub record LeastOf (places : List ℕ) (k : ℕ) : Type 0 where
    pub own : k ≤ key heights c 0
    pub all : (p : ℕ) → p ∈ places → k ≤ key_at p
    pub is : (k ≡ key heights c 0) ⊎ ((p : ℕ) × (p ∈ places) × (k ≡ key_at p))

  least_from : (ps : List ℕ) (k : ℕ) → (fold (λ j p. min j (key_at p)) k ps ≤ k) × ((p : ℕ) → p ∈ ps → fold (λ j p. min j (key_at p)) k ps ≤ key_at p)
      × ((fold (λ j p. min j (key_at p)) k ps ≡ k) ⊎ ((p : ℕ) × (p ∈ ps) × (fold (λ j p. min j (key_at p)) k ps ≡ key_at p)))
  least_from [] k = (omega arith, λ p m. absurd (in-none m), inl refl)
  least_from (q ∷ qs) k = go (least_from qs (min k (key_at q))) (lt_or_ge (key_at q) k)
    where
      low : ℕ
      low = fold (λ j p. min j (key_at p)) (min k (key_at q)) qs

      go : (low ≤ min k (key_at q)) × ((p : ℕ) → p ∈ qs → low ≤ key_at p) × ((low ≡ min k (key_at q)) ⊎ ((p : ℕ) × (p ∈ qs) × (low ≡ key_at p)))
          → (key_at q < k) ⊎ (k ≤ key_at q)
          → (low ≤ k) × ((p : ℕ) → p ∈ q ∷ qs → low ≤ key_at p) × ((low ≡ k) ⊎ ((p : ℕ) × (p ∈ q ∷ qs) × (low ≡ key_at p)))
      go (h, f, i) t = (omega arith, λ p m. pick p (in-cases m), which i t)
        where
          pick : (p : ℕ) → (p ≡ q) ⊎ (p ∈ qs) → low ≤ key_at p
          pick p (inl e) = subst (λ (z : ℕ). low ≤ key_at z) (sym e) (omega arith)
          pick p (inr m) = f p m

          which : (low ≡ min k (key_at q)) ⊎ ((p : ℕ) × (p ∈ qs) × (low ≡ key_at p)) → (key_at q < k) ⊎ (k ≤ key_at q)
              → (low ≡ k) ⊎ ((p : ℕ) × (p ∈ q ∷ qs) × (low ≡ key_at p))
          which (inl e) (inl l) = inr (q, in_head refl, omega arith)
          which (inl e) (inr l) = inl (omega arith)
          which (inr (p, m, e)) l = inr (p, in_Tail m, e)

  pub least_of_fact : (places : List ℕ) → LeastOf places (least_key heights x c places)
  least_of_fact places = let (h, f, i) = least_from places (key heights c 0) in record { own = h; all = f; is = i }
