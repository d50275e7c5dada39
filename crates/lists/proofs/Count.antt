-- How many numbers below n pass a test.
-- Assumes nothing.
use mathlib.Core.Bool.{Bool, true}
use mathlib.Core.List.{List}
use mathlib.Core.Path.{ap, sym, ◌∙◌, ◌≡◌}
use Prim.Native.Nat.{suc, ℕ, ◌+◌, ◌<◌, ◌≤◌}
use native.Mathlib.Nat.{add-suc, le_dest, suc-add, zero-add}
use native.Mathlib.Omega.{arith}
use lib.ListN.{length, length-append}
use Rattle.lists.proofs.Keep.{keep_append, keep-length}
use Rattle.lists.proofs.Range.{range_length, range_split}
use Rattle.lists.proofs.Tests.{eq, gt, lt, Three, three}
use Rattle.lists.specs.Lists.{count, keep, range, upto}

count_step : (p : ℕ → Bool) (m n : ℕ) → m < n → p m ≡ true → count p m < count p n
unfolding count
count_step p m n h t =
    let d : (k : ℕ) × (suc m + k ≡ n) = le_dest h in
    let e : m + suc d.0 ≡ n = add-suc m d.0 ∙ sym (suc-add m d.0) ∙ d.1 in
    let r : List ℕ = range (0 + m) (suc d.0) in
    let c : length (keep p (upto n)) ≡ length (keep p (upto m)) + length (keep p r) =
    ap (λ (l : List ℕ). length (keep p l)) (ap upto (sym e) ∙ range_split 0 m (suc d.0))
    ∙ ap length (keep_append p (upto m) r) ∙ length-append (keep p (upto m)) (keep p r) in
    let o : 0 < length (keep p r) = rw (ap p (zero-add m) ∙ t) (omega arith) in
    omega arith

pub count-below : (p : ℕ → Bool) (n : ℕ) → count p n ≤ n
unfolding count
count-below p n = omega (arith, keep-length p (upto n), range_length n 0)

-- numbers that pass are told apart by how many pass below them
pub count_same : (p : ℕ → Bool) (m n : ℕ) → p m ≡ true → p n ≡ true → count p m ≡ count p n → m ≡ n
count_same p m n s t e = go (three m n)
  where
    go : Three m n → m ≡ n
    go (lt h) = absurd (omega (arith, count_step p m n h s))
    go (eq h) = h
    go (gt h) = absurd (omega (arith, count_step p n m h t))
