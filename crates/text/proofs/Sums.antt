-- The sums of the last line: one cell more at each turn, and how large they are.
-- Assumes nothing.
use mathlib.Core.Bool.{Bool, cond, false, true}
use mathlib.Core.List.{[], List, map, ◌++◌, ◌∷◌}
use mathlib.Core.Path.{ap, refl, ◌∙◌, ◌≡◌}
use Prim.Native.Nat.{suc, zero, ℕ, ◌*◌, ◌+◌, ◌<◌, ◌≤◌}
use native.Mathlib.Nat.{add-zero, zero-add}
use native.Mathlib.Numerals.{add-one}
use native.Mathlib.Omega.{arith}
use lib.Dec.{eqb}
use lib.ListN.{length, take}
use lib.Seq.{get_or-take, length-take-le}
use Rattle.std.specs.Prelude.{sum as Prelude·sum}
use Rattle.std.proofs.lemmas.List.Sums.{sum_by-cons}
use Rattle.lists.proofs.Keep.{keep_append}
use Rattle.lists.proofs.Range.{range_split}
use Rattle.lists.proofs.Sum.{sum_append, sum-most-at}
use Rattle.lists.specs.Lists.{at, keep, sum, upto}
use Rattle.text.specs.Text.{outlet_drainage}

pub outlet_drainage-next : (drainage marks : List ℕ) (n : ℕ)
    → outlet_drainage drainage marks (n + 1) ≡ outlet_drainage drainage marks n + cond (eqb (at marks n) 1) (at drainage n) 0
unfolding outlet_drainage
outlet_drainage-next drainage marks n =
    let p : ℕ → Bool = λ c. eqb (at marks c) 1 in
    ap (λ (l : List ℕ). sum (map (at drainage) (keep p l))) (range_split 0 n 1 ∙ ap (λ (k : ℕ). upto n ++ (k ∷ [])) (zero-add n))
    ∙ ap (λ (l : List ℕ). sum (map (at drainage) l)) (keep_append p (upto n) (n ∷ []))
    ∙ sum_append (at drainage) (keep p (upto n)) (keep p (n ∷ []))
    ∙ ap (λ (k : ℕ). sum (map (at drainage) (keep p (upto n))) + k) (one (p n))
  where
    one : (b : Bool) → sum (map (at drainage) (cond b (n ∷ []) [])) ≡ cond b (at drainage n) 0
    one true = add-zero (at drainage n)
    one false = refl

-- the library's sum of a list is ours
pub sum_same : (l : List ℕ) → Prelude·sum l ≡ sum l
sum_same [] = refl
sum_same (x ∷ xs) = sum_by-cons (λ (y : ℕ). y) x xs ∙ ap (λ (n : ℕ). x + n) (sum_same xs)

outlet_drainage-none : (drainage marks : List ℕ) → outlet_drainage drainage marks 0 ≤ 4294967295 * 0
unfolding outlet_drainage
outlet_drainage-none drainage marks = omega arith

-- the first n entries of longer lists say the same of their first k cells
pub outlet_drainage-first : (drainage marks : List ℕ) (n k : ℕ) → k ≤ n
    → outlet_drainage (take n drainage) (take n marks) k ≡ outlet_drainage drainage marks k
outlet_drainage-first drainage marks n zero h =
    let a = outlet_drainage-none (take n drainage) (take n marks) in
    let b = outlet_drainage-none drainage marks in
    omega arith
outlet_drainage-first drainage marks n (suc k) h =
    let e : outlet_drainage (take n drainage) (take n marks) k ≡ outlet_drainage drainage marks k =
    outlet_drainage-first drainage marks n k (omega arith) in
    rw (← add-one k, outlet_drainage-next, e, get_or-take n marks k 0 h, get_or-take n drainage k 0 h, ← outlet_drainage-next drainage marks k)

-- no more than all cells can have
pub outlet_drainage-most : (drainage marks : List ℕ) (n : ℕ) → ((c : ℕ) → at drainage c < 4294967296)
    → outlet_drainage drainage marks n ≤ 4294967295 * n
outlet_drainage-most drainage marks zero h = outlet_drainage-none drainage marks
outlet_drainage-most drainage marks (suc n) h =
    rw (← add-one n, outlet_drainage-next drainage marks n)
    (let a : cond (eqb (at marks n) 1) (at drainage n) 0 < 4294967296 = share (eqb (at marks n) 1) (h n) in
    let b : outlet_drainage drainage marks n ≤ 4294967295 * n = outlet_drainage-most drainage marks n h in
    omega arith)
  where
    share : (b : Bool) → at drainage n < 4294967296 → cond b (at drainage n) 0 < 4294967296
    share true l = l
    share false l = omega arith

-- entries of 16 bits
pub sum-take-most : (l : List ℕ) (n : ℕ) → n ≤ length l → ((c : ℕ) → at l c < 65536) → sum (take n l) ≤ 65535 * n
sum-take-most l n k h =
    let e : length (take n l) ≡ n = length-take-le n l k in
    let s : sum (take n l) ≤ 65535 * length (take n l) = sum-most-at 65535 (take n l) small in
    omega arith
  where
    small : (i : ℕ) → i < length (take n l) → at (take n l) i ≤ 65535
    small i j =
        let e : length (take n l) ≡ n = length-take-le n l k in
        let a : at l i < 65536 = h i in
        rw (get_or-take n l i 0 (omega arith)) (omega arith)
