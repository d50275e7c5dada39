-- A pass over pairs of neighbouring cells: where two lower cells are joined, and weren't below h, a cell at h or higher is flagged.
-- Assumes nothing.
use mathlib.Core.List.Memᴰ.{cases_cons as in-cases}
use mathlib.Core.List.Memᴰ.{head as in_head}
use mathlib.Core.List.Memᴰ.{tail as in_Tail}
use mathlib.Core.List.{List, ◌∷◌}
use mathlib.Core.Logic.{inl, inr, ◌⊎◌}
use mathlib.Core.Path.{ap, refl, sym, ◌≡◌}
use Prim.Native.Nat.{ℕ, ◌<◌, ◌≤◌}
use native.Mathlib.Omega.{arith}
use Rattle.lake_rules.proofs.PairsBelow.{below_in, in_below}
use Rattle.lake_rules.specs.Groups.{Touch, touching}
use Rattle.lake_rules.specs.Passing.{flags, Joins, Merges, none_passed, pairs_below, Passed, plain, top}
use Rattle.lists.proofs.Tests.{is, isnt, Known, known, lt_or_ge}
use Rattle.lists.specs.Lists.{◌∈◌}
use Rattle.rules.proofs.Chains.{across, by-one_edge, mono, OneEdge, over, turned, without, ◌then◌}
use Rattle.rules.proofs.Labels.{apart→¬chain, joined→chain, Within}
use Rattle.rules.specs.Chain.{back, forth, here, joined}
use Rattle.rules.specs.Land.{Land}

module _ (L : Land) where
  -- where two lower cells are joined, and weren't below h, a cell at h or higher is flagged
  pub record Found (es : List Touch) (fs : List ℕ) (h a : ℕ) : Type 0 where
    pub cell : ℕ
    pub cell_in_fact : cell ∈ fs
    pub high : h ≤ L.height cell
    pub reached : Joins L es a cell

  -- a and b were joined before x, or x merges and a is on one side of it
  abbrev Before : List Touch → Touch → ℕ → ℕ → Type 0
  Before es x a b = Joins L es a b ⊎ (Merges L es x × (Joins L es a x.lesser ⊎ Joins L es a x.greater))

  module _ (n : ℕ) where
    found_later : {es : List Touch} {fs gs : List ℕ} {h a : ℕ} (x : Touch) → ((c : ℕ) → c ∈ fs → c ∈ gs) → Found es fs h a → Found (x ∷ es) gs h a
    found_later x f r = record { cell = r.cell; cell_in_fact = f r.cell r.cell_in_fact; high = r.high; reached = mono (λ y m. in_Tail m) r.reached }

    -- what the newest pair x adds: it joined a's group to b's
    module _ {es : List Touch} (x : Touch) (up : (y : Touch) → y ∈ es → top L y ≤ top L x) (w : Within touching n es)
        (on : (x.lesser < n) × (x.greater < n)) (h a b : ℕ) (la : L.height a < h) (lb : L.height b < h)
        (apart : Joins L (pairs_below L h (x ∷ es)) a b → ⊥) where
      -- below h the new pair would have joined them
      high : Joins L (x ∷ es) a b → h ≤ top L x
      high j = go (lt_or_ge (top L x) h)
        where
          low : top L x < h → (y : Touch) → (y ≡ x) ⊎ (y ∈ es) → top L y < h
          low l y (inl e) = let z : top L y ≡ top L x = ap (top L) e in omega arith
          low l y (inr m) = let z : top L y ≤ top L x = up y m in omega arith

          go : (top L x < h) ⊎ (h ≤ top L x) → h ≤ top L x
          go (inl l) = absurd (apart (mono (λ y m. in_below L h {es = x ∷ es} m (low l y (in-cases m))) j))
          go (inr l) = l

      apart_before : Joins L (pairs_below L h es) a b → ⊥
      apart_before j = apart (mono (λ y m. let k = below_in L h es m in in_below L h {es = x ∷ es} (in_Tail k.0) k.1) j)

      -- either they were joined before, or x merges
      before_or_merges : Joins L (x ∷ es) a b → Before es x a b
      before_or_merges j = go (by-one_edge x j)
        where
          t : h ≤ top L x
          t = high j

          sides : Known (joined touching n es x.lesser x.greater)
              → ((Joins L es a x.lesser) × (Joins L es x.greater b)) ⊎ ((Joins L es a x.greater) × (Joins L es x.lesser b))
              → Before es x a b
          sides (is k) (inl (p, q)) = inl (p then (joined→chain touching n es x.lesser x.greater w on.0 on.1 k then q))
          sides (is k) (inr (p, q)) = inl (p then (turned (joined→chain touching n es x.lesser x.greater w on.0 on.1 k) then q))
          sides (isnt k) (inl (p, q)) =
              let z : h ≤ top L x = t in
              inr (
                record {
                  apart = apart→¬chain touching n es x.lesser x.greater w k;
                  one = a;
                  one_joined = p;
                  one_lower = omega arith;
                  other = b;
                  other_joined = turned q;
                  other_lower = omega arith;
                },
                inl p,
              )
          sides (isnt k) (inr (p, q)) =
              let z : h ≤ top L x = t in
              inr (
                record {
                  apart = apart→¬chain touching n es x.lesser x.greater w k;
                  one = b;
                  one_joined = turned q;
                  one_lower = omega arith;
                  other = a;
                  other_joined = p;
                  other_lower = omega arith;
                },
                inr p,
              )

          go : OneEdge touching x es a b → Before es x a b
          go (without c) = inl c
          go (over p q) = sides (known (joined touching n es x.lesser x.greater)) (inl (p, q))
          go (across p q) = sides (known (joined touching n es x.lesser x.greater)) (inr (p, q))

    pub passed_complete : {es : List Touch} {fs : List ℕ} → Passed L es fs → Within touching n es → (h a b : ℕ) → L.height a < h → L.height b < h
        → Joins L es a b
        → (Joins L (pairs_below L h es) a b → ⊥)
        → Found es fs h a
    passed_complete none_passed w h a b la lb j s = absurd (s j)
    passed_complete (plain {es = ys} {fs = gs} x p up g) w h a b la lb j s =
        go (before_or_merges x up (λ y m. w y (in_Tail m)) (w x (in_head refl)) h a b la lb s j)
        (λ k. passed_complete p (λ y m. w y (in_Tail m)) h a b la lb k (apart_before x up (λ y m. w y (in_Tail m)) (w x (in_head refl)) h a b la lb s))
      where
        go : Before ys x a b → (Joins L ys a b → Found ys gs h a) → Found (x ∷ ys) gs h a
        go (inl k) ih = found_later x (λ c m. m) (ih k)
        go (inr (m, q)) ih = absurd (g m)
    passed_complete (flags {es = ys} {fs = gs} x c p up g e t) w h a b la lb j s =
        go (before_or_merges x up (λ y m. w y (in_Tail m)) (w x (in_head refl)) h a b la lb s j)
        (λ k. passed_complete p (λ y m. w y (in_Tail m)) h a b la lb k (apart_before x up (λ y m. w y (in_Tail m)) (w x (in_head refl)) h a b la lb s))
      where
        more : (y : Touch) → y ∈ ys → y ∈ x ∷ ys
        more y m = in_Tail m

        reach : (c ≡ x.lesser) ⊎ (c ≡ x.greater) → Joins L ys a x.lesser ⊎ Joins L ys a x.greater → Joins L (x ∷ ys) a c
        reach (inl u) (inl k) = mono more k then here (sym u)
        reach (inr u) (inr k) = mono more k then here (sym u)
        reach (inr u) (inl k) = mono more k then forth x (in_head refl) refl (here (sym u))
        reach (inl u) (inr k) = mono more k then back x (in_head refl) refl (here (sym u))

        go : Before ys x a b → (Joins L ys a b → Found ys gs h a) → Found (x ∷ ys) (c ∷ gs) h a
        go (inl k) ih = found_later x (λ d m. in_Tail m) (ih k)
        go (inr (m, q)) ih =
            let z : h ≤ top L x = high x up (λ y m. w y (in_Tail m)) (w x (in_head refl)) h a b la lb s j in
            record { cell = c; cell_in_fact = in_head refl; high = (let v = t in omega arith); reached = reach e q }
