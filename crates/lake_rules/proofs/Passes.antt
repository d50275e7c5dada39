-- A pass over pairs of neighbouring cells: every flagged cell joins two groups that have lower cells.
-- Assumes nothing.
use mathlib.Core.List.Memᴰ.{cases_cons as in-cases}
use mathlib.Core.List.Memᴰ.{head as in_head}
use mathlib.Core.List.Memᴰ.{not-nil as in-none}
use mathlib.Core.List.{List}
use mathlib.Core.List.Memᴰ.{tail as in_Tail}
use mathlib.Core.List.{◌∷◌}
use mathlib.Core.Logic.{inl, inr, ◌⊎◌}
use mathlib.Core.Path.{ap, refl, sym, ◌∙◌, ◌≡◌}
use Prim.Native.Nat.{suc, ℕ, ◌<◌, ◌≤◌}
use native.Mathlib.Omega.{arith}
use Rattle.lake_rules.proofs.PairsBelow.{below_in, in_below}
use Rattle.lake_rules.specs.Groups.{Touch}
use Rattle.lake_rules.specs.Passing.{flags, Joins, none_passed, pairs_below, Passed, plain, top}
use Rattle.lists.specs.Lists.{◌∈◌}
use Rattle.rules.proofs.Chains.{mono, turned, ◌then◌}
use Rattle.rules.specs.Chain.{back, forth, here}
use Rattle.rules.specs.Land.{Land}

module _ (L : Land) where
  -- what a flagged cell shows
  pub record Shown (es : List Touch) (c : ℕ) : Type 0 where
    pub pair : Touch
    pub pair_in : pair ∈ es
    pub pair_top_fact : L.height c ≡ top L pair
    pub one : ℕ
    pub one_lower : L.height one < L.height c
    pub one_joined : Joins L (pairs_below L (suc (L.height c)) es) one c
    pub other : ℕ
    pub other_lower : L.height other < L.height c
    pub other_joined : Joins L (pairs_below L (suc (L.height c)) es) other c
    pub apart : Joins L (pairs_below L (L.height c) es) one other → ⊥

  -- a later pair changes nothing of that
  shown_later : {es : List Touch} {c : ℕ} (x : Touch) → ((y : Touch) → y ∈ es → top L y ≤ top L x) → Shown es c → Shown (x ∷ es) c
  shown_later {es} {c} x up s =
      let p : top L s.pair ≤ top L x = up s.pair s.pair_in in
      let q = s.pair_top_fact in
      record {
        pair = s.pair;
        pair_in = in_Tail s.pair_in;
        pair_top_fact = s.pair_top_fact;
        one = s.one;
        one_lower = s.one_lower;
        one_joined = mono more s.one_joined;
        other = s.other;
        other_lower = s.other_lower;
        other_joined = mono more s.other_joined;
        apart = λ j. s.apart (mono (λ y m. let k = below_in L (L.height c) (x ∷ es) m in less y (in-cases k.0) k.1) j);
      }
    where
      more : (y : Touch) → y ∈ pairs_below L (suc (L.height c)) es → y ∈ pairs_below L (suc (L.height c)) (x ∷ es)
      more y m = let k = below_in L (suc (L.height c)) es m in in_below L (suc (L.height c)) (in_Tail k.0) k.1

      less : (y : Touch) → (y ≡ x) ⊎ (y ∈ es) → top L y < L.height c → y ∈ pairs_below L (L.height c) es
      less y (inl e) l =
          let p : top L s.pair ≤ top L x = up s.pair s.pair_in in
          let q = s.pair_top_fact in
          let z : top L y ≡ top L x = ap (top L) e in
          absurd (omega arith)
      less y (inr m) l = in_below L (L.height c) m l

  -- every flagged cell joins two groups that have lower cells
  pub passed_sound : {es : List Touch} {fs : List ℕ} → Passed L es fs → (c : ℕ) → c ∈ fs → Shown es c
  passed_sound none_passed c m = absurd (in-none m)
  passed_sound (plain x p up n) c m = shown_later x up (passed_sound p c m)
  passed_sound (flags {es = ys} {fs = gs} x d p up g e t) c m = go (in-cases m) (passed_sound p c)
    where
      H : L.height c ≡ L.height d → (y : Touch) → y ∈ ys → y ∈ pairs_below L (suc (L.height c)) (x ∷ ys)
      H q y i = let u : top L y ≤ top L x = up y i in let v = t in in_below L (suc (L.height c)) (in_Tail i) (omega arith)

      X : L.height c ≡ L.height d → x ∈ pairs_below L (suc (L.height c)) (x ∷ ys)
      X q = let v = t in in_below L (suc (L.height c)) {es = x ∷ ys} {x = x} (in_head refl) (omega arith)

      old : (y : Touch) → (y ≡ x) ⊎ (y ∈ ys) → top L y < top L x → y ∈ ys
      old y (inl r) l = let z : top L y ≡ top L x = ap (top L) r in absurd (omega arith)
      old y (inr i) l = i

      end : (z : ℕ) {a : ℕ} → c ≡ d → (c ≡ x.lesser) ⊎ (c ≡ x.greater) → (z ≡ x.lesser) ⊎ (z ≡ x.greater) → Joins L ys a z
          → Joins L (pairs_below L (suc (L.height c)) (x ∷ ys)) a c
      end z q (inl u) (inl v) j = mono (H (ap L.height q)) j then here (v ∙ sym u)
      end z q (inr u) (inr v) j = mono (H (ap L.height q)) j then here (v ∙ sym u)
      end z q (inl u) (inr v) j = mono (H (ap L.height q)) j then back x (X (ap L.height q)) (sym v) (here (sym u))
      end z q (inr u) (inl v) j = mono (H (ap L.height q)) j then forth x (X (ap L.height q)) (sym v) (here (sym u))

      side : c ≡ d → (d ≡ x.lesser) ⊎ (d ≡ x.greater) → (c ≡ x.lesser) ⊎ (c ≡ x.greater)
      side q (inl u) = inl (q ∙ u)
      side q (inr u) = inr (q ∙ u)

      go : (c ≡ d) ⊎ (c ∈ gs) → (c ∈ gs → Shown ys c) → Shown (x ∷ ys) c
      go (inl q) ih =
          let w : L.height c ≡ top L x = ap L.height q ∙ t in
          let a = g.one_lower in
          let b = g.other_lower in
          record {
            pair = x;
            pair_in = in_head refl;
            pair_top_fact = w;
            one = g.one;
            one_lower = omega arith;
            one_joined = end x.lesser q (side q e) (inl refl) g.one_joined;
            other = g.other;
            other_lower = omega arith;
            other_joined = end x.greater q (side q e) (inr refl) g.other_joined;
            apart = λ j. g.apart (turned g.one_joined then
                (mono (λ y m. let k = below_in L (L.height c) (x ∷ ys) m in old y (in-cases k.0) (let l = k.1 in omega arith)) j then g.other_joined));
          }
      go (inr i) ih = shown_later x up (ih i)
