-- Numbers that follow each other, and those from 0 on.
-- Assumes nothing.
use mathlib.Core.List.Memᴰ.{cases_cons as in-cases}
use mathlib.Core.List.Memᴰ.{head as in_head}
use mathlib.Core.List.Memᴰ.{not-nil as in-none}
use mathlib.Core.List.{List}
use mathlib.Core.List.Memᴰ.{tail as in_Tail}
use mathlib.Core.List.{◌++◌, ◌∷◌}
use mathlib.Core.Logic.{inl, inr, ◌⊎◌}
use mathlib.Core.Path.{ap, refl, sym, ◌∙◌, ◌≡◌}
use Prim.Native.Nat.{suc, zero, ℕ, ◌+◌, ◌<◌, ◌≤◌}
use native.Mathlib.Nat.{add-suc, add-zero, eq-or-lt_of_le, suc-add, zero-add}
use native.Mathlib.Omega.{arith}
use lib.ListN.{length}
use Rattle.lists.specs.Lists.{at, range, upto, ◌∈◌}

-- members, both ways
pub range_member : (n k : ℕ) {x : ℕ} → x ∈ range k n → (k ≤ x) × (x < k + n)
range_member zero k m = absurd (in-none m)
range_member (suc n) k {x} m = go (in-cases m) (range_member n (suc k))
  where
    go : (x ≡ k) ⊎ (x ∈ range (suc k) n) → (x ∈ range (suc k) n → (suc k ≤ x) × (x < suc k + n)) → (k ≤ x) × (x < k + suc n)
    go (inl e) ih = omega arith
    go (inr m') ih = let h : (suc k ≤ x) × (x < suc k + n) = ih m' in omega arith

range_holds : (n k x : ℕ) → k ≤ x → x < k + n → x ∈ range k n
range_holds zero k x h l = absurd (omega arith)
range_holds (suc n) k x h l = go (eq-or-lt_of_le h) (range_holds n (suc k) x)
  where
    go : (k ≡ x) ⊎ (k < x) → (suc k ≤ x → x < suc k + n → x ∈ range (suc k) n) → x ∈ k ∷ range (suc k) n
    go (inl e) ih = in_head (sym e)
    go (inr g) ih = in_Tail (ih g (omega arith))

pub upto-below : {n x : ℕ} → x ∈ upto n → x < n
upto-below {n} {x} m = let h : (0 ≤ x) × (x < 0 + n) = range_member n 0 m in omega arith

pub upto_holds : {n x : ℕ} → x < n → x ∈ upto n
upto_holds {n} {x} h = range_holds n 0 x (omega arith) (omega arith)

pub range_length : (n k : ℕ) → length (range k n) ≡ n
range_length zero k = refl
range_length (suc n) k = ap suc (range_length n (suc k))

-- in two parts
pub range_split : (k m r : ℕ) → range k (m + r) ≡ range k m ++ range (k + m) r
range_split k zero r = ap (range k) (zero-add r) ∙ ap (λ (n : ℕ). range n r) (sym (add-zero k))
range_split k (suc m) r =
    ap (range k) (suc-add m r)
    ∙ ap (λ (l : List ℕ). k ∷ l) (range_split (suc k) m r ∙ ap (λ (n : ℕ). range (suc k) m ++ range n r) (suc-add k m ∙ sym (add-suc k m)))

range_at : (n k i : ℕ) → i < n → at (range k n) i ≡ k + i
range_at zero k i h = absurd (omega arith)
range_at (suc n) k zero h = sym (add-zero k)
range_at (suc n) k (suc i) h = range_at n (suc k) i (omega arith) ∙ (suc-add k i ∙ sym (add-suc k i))

pub upto-at : (n i : ℕ) → i < n → at (upto n) i ≡ i
upto-at n i h = range_at n 0 i h ∙ zero-add i
