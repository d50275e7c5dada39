-- A pass over all neighbouring cells of a set leaves the flags that the splits are read from.
-- Assumes nothing.
use mathlib.Core.Bool.{Bool, true}
use mathlib.Core.List.Memᴰ.{tail as in_Tail}
use mathlib.Core.List.{[], List, ◌∷◌}
use mathlib.Core.Logic.{inl, inr, ◌⊎◌}
use mathlib.Core.Path.{◌≡◌}
use Prim.Native.Nat.{suc, ℕ, ◌<◌, ◌≤◌}
use native.Mathlib.Omega.{arith}
use lib.Dec.{ltb}
use borrow.Author.Tests.{le-ltb, lt-ltb}
use Rattle.lake_rules.proofs.Joining.{OnLand, Touching}
use Rattle.lake_rules.proofs.Lower.{lower_mem, mem_lower}
use Rattle.lake_rules.proofs.PairChains.{chain_in, from-under, to-under}
use Rattle.lake_rules.proofs.PairsBelow.{below_in}
use Rattle.lake_rules.proofs.Passes.{passed_sound}
use Rattle.lake_rules.proofs.PassesComplete.{passed_complete}
use Rattle.lake_rules.specs.Groups.{lower, Touch, touches}
use Rattle.lake_rules.specs.Notes.{Flagged, Under}
use Rattle.lake_rules.specs.Passing.{flags, none_passed, pairs_below, Passed, plain, top}
use Rattle.lists.proofs.Keep.{keep_all, keep_holds, keep_member}
use Rattle.lists.proofs.Tests.{lt_or_ge}
use Rattle.lists.specs.Lists.{◌∈◌}
use Rattle.rules.proofs.Chains.{mono, turned}
use Rattle.rules.specs.Land.{Land}

module _ (L : Land) where
  -- pairs no higher than one below t are all below t
  pub all-below : (t : ℕ) (es : List Touch) (x : Touch) → ((y : Touch) → y ∈ es → top L y ≤ top L x) → top L x < t → pairs_below L t es ≡ es
  all-below t es x up l =
      keep_all (λ y. ltb (top L y) t) es (λ y m. lt-ltb (top L y) t (let u : top L y ≤ top L x = up y m in omega arith))

  -- a pass up to a height
  pub record PassedTo (t : ℕ) (es : List Touch) (fs : List ℕ) : Type 0 where
    pub some : List ℕ
    pub some_in : (c : ℕ) → c ∈ some → c ∈ fs
    pub passed : Passed L (pairs_below L t es) some

  pub passed_to : {es : List Touch} {fs : List ℕ} (t : ℕ) → Passed L es fs → PassedTo t es fs
  passed_to t none_passed = record { some = []; some_in = λ c m. m; passed = none_passed }
  passed_to t (plain {es = ys} {fs = gs} x p up n) = go (lt_or_ge (top L x) t) (passed_to t p)
    where
      go : (top L x < t) ⊎ (t ≤ top L x) → PassedTo t ys gs → PassedTo t (x ∷ ys) gs
      go (inl l) ih =
          let e = all-below t ys x up l in
          record { some = gs; some_in = λ c m. m; passed = rw (lt-ltb (top L x) t l, e) (plain x p up n) }
      go (inr l) ih = record { some = ih.some; some_in = ih.some_in; passed = rw (le-ltb (top L x) t l) ih.passed }
  passed_to t (flags {es = ys} {fs = gs} x c p up g s h) = go (lt_or_ge (top L x) t) (passed_to t p)
    where
      go : (top L x < t) ⊎ (t ≤ top L x) → PassedTo t ys gs → PassedTo t (x ∷ ys) (c ∷ gs)
      go (inl l) ih =
          let e = all-below t ys x up l in
          record { some = c ∷ gs; some_in = λ d m. m; passed = rw (lt-ltb (top L x) t l, e) (flags x c p up g s h) }
      go (inr l) ih = record { some = ih.some; some_in = λ d m. in_Tail (ih.some_in d m); passed = rw (le-ltb (top L x) t l) ih.passed }

  module _ (S : List ℕ) (on : OnLand L S) {es : List Touch} {fs : List ℕ} (P : Passed L es fs) (only : (x : Touch) → x ∈ es → Touching L S x)
      (all : (x : Touch) → x ∈ touches L S → x ∈ es) where
    -- the flags of the pass are right
    pub pass_flags : (flag : ℕ → Bool) → ((c : ℕ) → flag c ≡ true → c ∈ fs) → ((c : ℕ) → c ∈ fs → flag c ≡ true) → Flagged L S flag
    pass_flags flag to from =
        record {
          sound = λ c m f.
              let s = passed_sound L P c (to c f) in
              let a = chain_in L S only (suc (L.height c)) m (turned s.one_joined) in
              let b = chain_in L S only (suc (L.height c)) m (turned s.other_joined) in (
                s.one,
                s.other,
                lower_mem L (L.height c) a s.one_lower,
                lower_mem L (L.height c) b s.other_lower,
                (λ u. s.apart (from-under L S all (L.height c) u)),
                to-under L S only (suc (L.height c)) s.one_joined,
                to-under L S only (suc (L.height c)) s.other_joined,
              );
          complete = λ h t a b l i j c n. found h t a b l i j c n;
        }
      where
        found : (h t a b : ℕ) → h ≤ t → a ∈ lower L h S → b ∈ lower L h S → Under L S t a b → (Under L S h a b → ⊥)
            → (c : ℕ) × (c ∈ lower L t S) × (flag c ≡ true) × (h ≤ L.height c) × Under L S t a c
        found h t a b l i j c n =
            let Q = passed_to t P in
            let F = passed_complete L L.cells Q.passed (λ x m. let T = only x (below_in L t es m).0 in (on _ T.one_in, on _ T.other_in)) h a b
            (mem_lower L h S i).1 (mem_lower L h S j).1 (from-under L S all t c)
            (λ u. n (to-under L S only h (mono (λ x m.
            let k = keep_member (λ x. ltb (top L x) h) (pairs_below L t es) m in
            keep_holds (λ x. ltb (top L x) h) (below_in L t es k.0).0 k.1) u))) in
            let s = passed_sound L Q.passed F.cell F.cell_in_fact in
            let p = below_in L t es s.pair_in in
            let q = s.pair_top_fact in
            let r = p.1 in (
              F.cell,
              lower_mem L t (chain_in L S only t (mem_lower L h S i).0 F.reached) (omega arith),
              from F.cell (Q.some_in F.cell F.cell_in_fact),
              F.high,
              to-under L S only t F.reached,
            )
