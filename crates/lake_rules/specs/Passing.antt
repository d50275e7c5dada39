-- One pass over pairs of neighbouring cells, by ascending height of the higher of the two: a pair that joins two groups, each with a cell
-- lower than the pair, flags its higher cell.
-- Assumes nothing.
use Rattle.std.specs.Prelude.{[], List, ◌∷◌, ◌⊎◌, ◌≡◌, max, ℕ, ◌<◌, ◌≤◌, ltb}
use Rattle.lake_rules.specs.Groups.{Touch, touching}
use Rattle.lists.specs.Lists.{keep, ◌∈◌}
use Rattle.rules.specs.Chain.{Chain}
use Rattle.rules.specs.Land.{Land}

module _ (L : Land) where
  -- the height of a pair: that of the higher cell
  abbrev pub top : Touch → ℕ
  top x = max (L.height x.lesser) (L.height x.greater)

  -- the pairs below a height
  abbrev pub pairs_below : ℕ → List Touch → List Touch
  pairs_below h es = keep (λ x. ltb (top x) h) es

  -- a chain of pairs
  abbrev pub Joins : List Touch → ℕ → ℕ → Type 0
  Joins es a b = Chain touching es a b

  -- x joins two groups, and each has a cell lower than x
  pub record Merges (es : List Touch) (x : Touch) : Type 0 where
    pub apart : Joins es x.lesser x.greater → ⊥
    pub one : ℕ
    pub one_joined : Joins es one x.lesser
    pub one_lower : L.height one < top x
    pub other : ℕ
    pub other_joined : Joins es other x.greater
    pub other_lower : L.height other < top x

  -- the pairs taken so far, the last first, and the cells flagged
  pub data Passed : List Touch → List ℕ → Type 0 where
    none_passed : Passed [] []
    plain : {es : List Touch} {fs : List ℕ} (x : Touch) → Passed es fs → ((y : Touch) → y ∈ es → top y ≤ top x) → (Merges es x → ⊥)
        → Passed (x ∷ es) fs
    flags : {es : List Touch} {fs : List ℕ} (x : Touch) (c : ℕ) → Passed es fs → ((y : Touch) → y ∈ es → top y ≤ top x) → Merges es x
        → (c ≡ x.lesser) ⊎ (c ≡ x.greater)
        → L.height c ≡ top x
        → Passed (x ∷ es) (c ∷ fs)
