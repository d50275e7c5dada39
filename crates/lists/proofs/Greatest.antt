-- The greatest entry of a list: how one pass finds it, that it is a member, and that it is at most b exactly if each entry is. So it
-- says, without a search, whether a search for an entry above b finds one.
-- Assumes nothing.
use mathlib.Core.Bool.{Bool}
use mathlib.Core.List.Memᴰ.{head as in_head}
use mathlib.Core.List.Memᴰ.{tail as in_Tail}
use mathlib.Core.List.{[], List, ◌++◌, ◌∷◌}
use mathlib.Core.Logic.{inl, inr, ◌⊎◌}
use mathlib.Core.Path.{ap, refl, subst, sym, ◌∙◌, ◌≡◌}
use Prim.Native.Nat.{max, suc, zero, ℕ, ◌+◌, ◌<◌, ◌≤◌}
use native.Mathlib.Nat.{le_of_suc-le-suc, not-suc-le-zero}
use native.Mathlib.Numerals.{add-one}
use native.Mathlib.Omega.{arith}
use lib.Dec.{ltb}
use lib.ListN.{length}
use borrow.Author.Tests.{le-ltb, ltb-false}
use Rattle.lists.proofs.Find.{find-left, find_none}
use Rattle.lists.proofs.Tab.{tab-suc}
use Rattle.lists.proofs.Tests.{lt_or_ge}
use Rattle.lists.specs.Find.{find}
use Rattle.lists.specs.Greatest.{greatest}
use Rattle.lists.specs.Lists.{at, tab, ◌∈◌}

greatest-last : (l : List ℕ) (x : ℕ) → greatest (l ++ (x ∷ [])) ≡ max (greatest l) x
greatest-last [] x = omega arith
greatest-last (y ∷ ys) x =
    let e : greatest (ys ++ (x ∷ [])) ≡ max (greatest ys) x = greatest-last ys x in
    omega arith

-- a turn of the pass: one entry more
pub greatest-next : (f : ℕ → ℕ) (n : ℕ) → max (greatest (tab n f)) (f n) ≡ greatest (tab (n + 1) f)
greatest-next f n = rw add-one (sym (greatest-last (tab n f) (f n)) ∙ ap greatest (sym (tab-suc f n)))

-- it is a member, unless it is 0
pub greatest_mem : (l : List ℕ) → (greatest l ≡ 0) ⊎ (greatest l ∈ l)
greatest_mem [] = inl refl
greatest_mem (x ∷ xs) = go (lt_or_ge x (greatest xs)) (greatest_mem xs)
  where
    go : (x < greatest xs) ⊎ (greatest xs ≤ x) → (greatest xs ≡ 0) ⊎ (greatest xs ∈ xs)
        → (max x (greatest xs) ≡ 0) ⊎ (max x (greatest xs) ∈ x ∷ xs)
    go (inl l) (inl e) = absurd (omega arith)
    go (inl l) (inr m) =
        let e : max x (greatest xs) ≡ greatest xs = omega arith in
        inr (subst (λ (z : ℕ). z ∈ x ∷ xs) (sym e) (in_Tail m))
    go (inr l) m = inr (in_head (let e : max x (greatest xs) ≡ x = omega arith in e))

-- and no member is greater
pub greatest-most : {x : ℕ} (l : List ℕ) → x ∈ l → x ≤ greatest l
greatest-most l (in_head {x = y} {xs = ys} e) = let f = e in omega arith
greatest-most l (in_Tail {x = y} {xs = ys} m) = let f : _ ≤ greatest ys = greatest-most ys m in omega arith

-- at most b exactly if each entry is
pub greatest_bounds : (l : List ℕ) (b : ℕ) → greatest l ≤ b → (k : ℕ) → k < length l → at l k ≤ b
greatest_bounds [] b h k m = absurd (not-suc-le-zero m)
greatest_bounds (x ∷ xs) b h zero m = omega arith
greatest_bounds (x ∷ xs) b h (suc k) m = greatest_bounds xs b (omega arith) k (le_of_suc-le-suc m)

greatest_bounded : (l : List ℕ) (b : ℕ) → ((k : ℕ) → k < length l → at l k ≤ b) → greatest l ≤ b
greatest_bounded [] b h = omega arith
greatest_bounded (x ∷ xs) b h =
    let first : x ≤ b = h zero (omega arith) in
    let rest : greatest xs ≤ b = greatest_bounded xs b (λ k m. h (suc k) (omega arith)) in
    omega arith

-- a search by any test that tells the entries above b
module _ (p : ℕ → Bool) (l : List ℕ) (b : ℕ) {n : ℕ} (full : length l ≡ n)
    (tells : (k : ℕ) → k < n → p k ≡ ltb b (at l k)) where
  pub greatest-none : greatest l ≤ b → find p n ≡ n
  greatest-none h = find_none p n (λ k m. tells k m ∙ le-ltb b (at l k) (greatest_bounds l b h k (rw full m)))

  pub greatest_found : b < greatest l → find p n < n
  greatest_found h = go (lt_or_ge (find p n) n)
    where
      within : n ≤ find p n → (k : ℕ) → k < length l → at l k ≤ b
      within none k m =
          let i : k < n = rw full at m in
          ltb-false b (at l k) (sym (tells k i) ∙ find-left p n none k i)

      go : (find p n < n) ⊎ (n ≤ find p n) → find p n < n
      go (inl found) = found
      go (inr none) = absurd (let z : greatest l ≤ b = greatest_bounded l b (within none) in omega arith)
