-- Loops that write an entry and then count it or not: what isn't counted is overwritten.
-- Assumes nothing.
use mathlib.Core.Bool.{Bool, cond}
use mathlib.Core.List.{[], append-nil, List, ◌++◌, ◌∷◌}
use mathlib.Core.Path.{ap, refl, subst, sym, ◌∙◌, ◌≡◌}
use Prim.Native.Nat.{suc, zero, ℕ, ◌+◌, ◌<◌, ◌≤◌}
use native.Mathlib.Nat.{add-zero, le_refl, zero-add}
use native.Mathlib.Numerals.{add-one}
use native.Mathlib.Omega.{arith}
use lib.Dec.{eqb}
use lib.ListN.{length, length-append, set, take}
use lib.Seq.{take-set-le, take-suc-set}
use Rattle.lists.proofs.Keep.{keep_append}
use Rattle.lists.proofs.Range.{range_split}
use Rattle.lists.specs.Lists.{keep, range, upto}
use Rattle.lists.specs.Stores.{Packs}

-- an entry is written, and then counted or not
pub packs_take : (l p : List ℕ) (k v b : ℕ) → take k l ≡ p → k < length l → b ≤ 1
    → take (k + b) (set l k v) ≡ p ++ cond (eqb b 1) (v ∷ []) []
packs_take l p k v zero e h i = ap (λ (z : ℕ). take z (set l k v)) (add-zero k) ∙ take-set-le k l k v (le_refl k) ∙ e ∙ sym (append-nil p)
packs_take l p k v (suc zero) e h i =
    ap (λ (z : ℕ). take z (set l k v)) (add-one k) ∙ take-suc-set l k v h ∙ ap (λ (z : List ℕ). z ++ (v ∷ [])) e
packs_take l p k v (suc (suc b)) e h i = absurd (omega arith)

bit_long : (b v : ℕ) → b ≤ 1 → length (cond (eqb b 1) (v ∷ []) []) ≡ b
bit_long zero v h = refl
bit_long (suc zero) v h = refl
bit_long (suc (suc b)) v h = absurd (omega arith)

-- the same of a list that is packed
pub packs_bit : {p l : List ℕ} {k : ℕ} (v b : ℕ) → Packs p l k → k < length l → b ≤ 1
    → Packs (p ++ cond (eqb b 1) (v ∷ []) []) (set l k v) (k + b)
packs_bit {p} {l} {k} v b P h i =
    record {
      count = omega (arith, P.count, length-append p (cond (eqb b 1) (v ∷ []) []), bit_long b v i);
      first = packs_take l p k v b P.first h i;
    }

pub packs_none : (l : List ℕ) → Packs [] l 0
packs_none l = record { count = refl; first = refl }

-- the next number is kept if it passes the test
pub keep-next : (t : ℕ → Bool) (m b : ℕ) → t m ≡ eqb b 1 → keep t (upto (m + 1)) ≡ keep t (upto m) ++ cond (eqb b 1) (m ∷ []) []
keep-next t m b e =
    ap (keep t) (range_split 0 m 1)
    ∙ keep_append t (upto m) (range (0 + m) 1)
    ∙ ap (λ (z : ℕ). keep t (upto m) ++ cond (t z) (z ∷ []) []) (zero-add m)
    ∙ ap (λ (s : Bool). keep t (upto m) ++ cond s (m ∷ []) []) e

-- written, and then counted
pub packs_next : (t : ℕ → Bool) {l : List ℕ} {k : ℕ} (m b : ℕ) → t m ≡ eqb b 1 → b ≤ 1 → k < length l → Packs (keep t (upto m)) l k
    → Packs (keep t (upto (m + 1))) (set l k m) (k + b)
packs_next t {l} {k} m b e i h P = subst (λ (p : List ℕ). Packs p (set l k m) (k + b)) (sym (keep-next t m b e)) (packs_bit m b P h i)
