-- The outlets from cell c on, by ascending number: one cell more in front, and all of them.
-- Assumes nothing.
use Rattle.std.proofs.Common.{◌≡◌, ℕ, suc, ◌-◌, ◌<◌, ◌≤◌, Bool, true, false, cond, List, [], ◌∷◌, ◌++◌, length, sym, ap, ◌∙◌, arith}
use Rattle.grid.proofs.AtPlaces.{one}
use Rattle.lists.proofs.Keep.{keep-length}
use Rattle.lists.proofs.Range.{range_length}
use Rattle.lists.specs.Lists.{keep, range, upto}
use Rattle.rules.specs.Ground.{is_outlet}

-- of n cells, those from c on that are outlets
abbrev pub outlets_from : (marks : List ℕ) (n c : ℕ) → List ℕ
outlets_from marks n c = keep (is_outlet marks) (range c (n - c))

pub outlets-next : (marks : List ℕ) (n c : ℕ) → 0 < c → c ≤ n
    → one (is_outlet marks (c - 1)) (c - 1) ++ outlets_from marks n c ≡ outlets_from marks n (c - 1)
outlets-next marks n c h l =
    let a : n - (c - 1) ≡ suc (n - c) = omega arith in
    let b : c ≡ suc (c - 1) = omega arith in
    go (is_outlet marks (c - 1)) (ap (λ (m : ℕ). keep (is_outlet marks) (range m (n - c))) b)
    ∙ ap (λ (m : ℕ). keep (is_outlet marks) (range (c - 1) m)) (sym a)
  where
    go : (t : Bool) → keep (is_outlet marks) (range c (n - c)) ≡ keep (is_outlet marks) (range (suc (c - 1)) (n - c))
        → one t (c - 1) ++ keep (is_outlet marks) (range c (n - c))
        ≡ cond t ((c - 1) ∷ keep (is_outlet marks) (range (suc (c - 1)) (n - c))) (keep (is_outlet marks) (range (suc (c - 1)) (n - c)))
    go true e = ap (λ (l : List ℕ). (c - 1) ∷ l) e
    go false e = e

pub outlets_few : (marks : List ℕ) (n c : ℕ) → length (outlets_from marks n c) ≤ n - c
outlets_few marks n c = let a = keep-length (is_outlet marks) (range c (n - c)) in let b = range_length (n - c) c in omega arith

pub outlets-none : (marks : List ℕ) (n : ℕ) → outlets_from marks n n ≡ []
outlets-none marks n = ap (λ (m : ℕ). keep (is_outlet marks) (range n m)) (let z : n - n ≡ 0 = omega arith in z)

pub outlets-all : (marks : List ℕ) (n c : ℕ) → c ≡ 0 → outlets_from marks n c ≡ keep (is_outlet marks) (upto n)
outlets-all marks n c e =
    let z : n - 0 ≡ n = omega arith in
    ap (outlets_from marks n) e ∙ ap (λ (m : ℕ). keep (is_outlet marks) (range 0 m)) z
