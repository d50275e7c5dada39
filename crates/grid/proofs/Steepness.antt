-- Steepness (W-203): of two drops of one kind the greater is steeper, and a straight drop and a diagonal one are never equally steep. So
-- steeper is a strict order in which only equal drops of one kind tie.
-- Assumes nothing.
use mathlib.Core.Bool.{Bool, cond, false, true}
use mathlib.Core.Logic.{inl, inr, ◌⊎◌}
use mathlib.Core.Path.{ap, refl, subst, sym, ◌∙◌, ◌≡◌}
use Prim.Native.Nat.{suc, zero, ℕ, ◌%◌, ◌*◌, ◌+◌, ◌/◌, ◌<◌, ◌≤◌}
use native.Mathlib.Nat.{add-mul, mul_assoc, mul_left_comm, mul-le-mul_left, mul-le-mul_right, one-mul, suc-mul}
use native.Mathlib.Omega.{arith}
use lib.Dec.{ltb}
use borrow.Author.Tests.{le-ltb, lt-ltb, ltb-false, ltb-true}
use Rattle.grid.specs.Neighbours.{is_corner, steeper, steepness}
use Rattle.lists.proofs.Tests.{eq, eq_or_ne, gt, lt, lt_or_ge, same_ltb, Three, three}

-- squares grow with their sides
pub square_le : (a b : ℕ) → a ≤ b → a * a ≤ b * b
square_le a b h =
    let x : a * a ≤ b * a = mul-le-mul_right a h in
    let y : b * a ≤ b * b = mul-le-mul_left b h in
    omega arith

pub square-less : (a b : ℕ) → a < b → a * a < b * b
square-less a b h =
    let x : a * b ≤ b * b = mul-le-mul_right b (omega arith) in
    let y : a * suc a ≤ a * b = mul-le-mul_left a h in
    let z : suc a * b ≤ b * b = mul-le-mul_right b h in
    let e : suc a * b ≡ a * b + b = suc-mul a b in
    let f : a * a ≤ a * b = mul-le-mul_left a (omega arith) in
    omega arith

-- the square of a drop of 16,000,000 has room in 64 bits, twice
pub square_fits : (d : ℕ) → d ≤ 16000000 → d * d ≤ 256000000000000
square_fits d h = let a : d * d ≤ 16000000 * 16000000 = square_le d 16000000 h in omega arith

-- the root of 2 is no fraction: b * b is 2 * (a * a) only where both are 0. Then b is even, so a * a is 2 * (c * c) with b = 2 * c, and so on
odd_square : (q k : ℕ) → (2 * q + 1) * (2 * q + 1) ≡ 2 * k → ⊥
odd_square q k e =
    let f : (2 * q + 1) * (2 * q + 1) ≡ 2 * (q * (2 * q + 1)) + (2 * q + 1) = add-mul (2 * q) 1 (2 * q + 1) ∙ rw (one-mul, mul_assoc) in
    omega arith

double_square : (c : ℕ) → 2 * c * (2 * c) ≡ 2 * (2 * (c * c))
double_square c = mul_assoc 2 c (2 * c) ∙ ap (λ (x : ℕ). 2 * x) (mul_left_comm c 2 c)

no_root : (k a b : ℕ) → b < k → b * b ≡ 2 * (a * a) → (a ≡ 0) × (b ≡ 0)
no_root zero a b h e = absurd (omega arith)
no_root (suc k) a b h e = go (eq_or_ne (b % 2) 0) (lt_or_ge a b) (no_root k (b / 2) a)
  where
    c : ℕ
    c = b / 2

    go : (b % 2 ≡ 0) ⊎ (b % 2 ≡ 0 → ⊥) → (a < b) ⊎ (b ≤ a) → (a < k → a * a ≡ 2 * (c * c) → (c ≡ 0) × (a ≡ 0)) → (a ≡ 0) × (b ≡ 0)
    go (inr z) l ih =
        let o : b ≡ 2 * c + 1 = omega (arith, z) in
        absurd (odd_square c (a * a) (subst (λ (x : ℕ). x * x ≡ 2 * (a * a)) o e))
    go (inl z) (inl l) ih =
        let o : b ≡ 2 * c = omega arith in
        let f : 2 * c * (2 * c) ≡ 2 * (a * a) = subst (λ (x : ℕ). x * x ≡ 2 * (a * a)) o e in
        let g = double_square c in
        let r = ih (omega arith) (omega arith) in
        let x = r.0 in let y = r.1 in
        (y, omega arith)
    go (inl z) (inr l) ih =
        let m : b * b ≤ a * a = square_le b a l in
        let s : a * a ≡ 0 = omega arith in
        let y : a ≡ 0 = root-zero a s in
        (y, omega arith)
      where
        root-zero : (x : ℕ) → x * x ≡ 0 → x ≡ 0
        root-zero zero q = refl
        root-zero (suc x) q = absurd (let p : suc x * suc x ≡ x * suc x + suc x = suc-mul x (suc x) in omega arith)

-- a straight drop and a diagonal one are never equally steep
pub never_as_steep : (a b : ℕ) → 2 * (a * a) ≡ b * b → (a ≡ 0) × (b ≡ 0)
never_as_steep a b e = no_root (suc b) a b (omega arith) (sym e)

-- the request's own words: the diagonal drop b is steeper than the straight drop a when b times b is greater than twice a times a
pub diagonal_steeper : (p a q b : ℕ) → is_corner p ≡ false → is_corner q ≡ true → steeper q b p a ≡ ltb (2 * (a * a)) (b * b)
unfolding steepness
diagonal_steeper p a q b s d = rw (s, d)

-- of one kind the greater drop is steeper
module _ (p q : ℕ) (kind : is_corner p ≡ is_corner q) where
  pub one_kind_le : (a b : ℕ) → a ≤ b → steepness p a ≤ steepness q b
  unfolding steepness
  one_kind_le a b h = rw kind (go (is_corner q))
    where
      go : (t : Bool) → cond t (a * a) (2 * (a * a)) ≤ cond t (b * b) (2 * (b * b))
      go true = square_le a b h
      go false = let s = square_le a b h in omega arith

  pub one_kind_less : (a b : ℕ) → a < b → steepness p a < steepness q b
  unfolding steepness
  one_kind_less a b h = rw kind (go (is_corner q))
    where
      go : (t : Bool) → cond t (a * a) (2 * (a * a)) < cond t (b * b) (2 * (b * b))
      go true = square-less a b h
      go false = let s = square-less a b h in omega arith

pub one_kind : (p a q b : ℕ) → is_corner p ≡ is_corner q → steeper p a q b ≡ ltb b a
one_kind p a q b kind =
    same_ltb (steepness q b) (steepness p a) b a (λ h. less (lt_or_ge b a) h) (λ h. most (lt_or_ge b a) h)
  where
    less : (b < a) ⊎ (a ≤ b) → steepness q b < steepness p a → b < a
    less (inl l) h = l
    less (inr l) h = let g = one_kind_le p q kind a b l in absurd (omega arith)

    most : (b < a) ⊎ (a ≤ b) → steepness p a ≤ steepness q b → a ≤ b
    most (inl l) h = let g = one_kind_less q p (sym kind) b a l in absurd (omega arith)
    most (inr l) h = l

-- steeper is a strict order
pub steeper_irreflexive : (p a : ℕ) → steeper p a p a ≡ false
steeper_irreflexive p a = le-ltb (steepness p a) (steepness p a) (omega arith)

pub steeper_transitive : (p a q b r c : ℕ) → steeper p a q b ≡ true → steeper q b r c ≡ true → steeper p a r c ≡ true
steeper_transitive p a q b r c s t =
    let x = ltb-true (steepness q b) (steepness p a) s in
    let y = ltb-true (steepness r c) (steepness q b) t in
    lt-ltb (steepness r c) (steepness p a) (omega arith)

-- and drops tie only where they are equal and of one kind
pub steepness_tells : (p a q b : ℕ) → 0 < a → steepness p a ≡ steepness q b → (is_corner p ≡ is_corner q) × (a ≡ b)
unfolding steepness
steepness_tells p a q b some e = go (is_corner p) (is_corner q) e
  where
    root : a * a ≡ b * b → a ≡ b
    root f = pick (three a b)
      where
        pick : Three a b → a ≡ b
        pick (lt l) = let g = square-less a b l in absurd (omega arith)
        pick (eq l) = l
        pick (gt l) = let g = square-less b a l in absurd (omega arith)

    go : (s t : Bool) → cond s (a * a) (2 * (a * a)) ≡ cond t (b * b) (2 * (b * b)) → (s ≡ t) × (a ≡ b)
    go true true f = (refl, root f)
    go false false f = (refl, root (omega (arith, f)))
    go true false f = let z = (never_as_steep b a (sym f)).1 in absurd (omega arith)
    go false true f = let z = (never_as_steep a b f).0 in absurd (omega arith)

pub steeper_ties : (p a q b : ℕ) → 0 < a → steeper p a q b ≡ false → steeper q b p a ≡ false → (is_corner p ≡ is_corner q) × (a ≡ b)
steeper_ties p a q b some s t =
    let x = ltb-false (steepness q b) (steepness p a) s in
    let y = ltb-false (steepness p a) (steepness q b) t in
    steepness_tells p a q b some (omega arith)
