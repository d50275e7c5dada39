-- Sums over lists: of parts, of what is kept, of the same elements in another order, taken the other way round, and their bounds.
-- Assumes nothing.
use mathlib.Core.Bool.{Bool, cond, false, not, true}
use mathlib.Core.List.Memᴰ.{cases_cons as in-cases}
use mathlib.Core.List.Memᴰ.{head as in_head}
use mathlib.Core.List.Memᴰ.{not-nil as in-none}
use mathlib.Core.List.{[], List}
use mathlib.Core.List.Memᴰ.{tail as in_Tail}
use mathlib.Core.List.{map, ◌++◌, ◌∷◌}
use mathlib.Core.Logic.{inl, inr, ◌⊎◌}
use mathlib.Core.Path.{ap, refl, subst, sym, ◌∙◌, ◌≡◌}
use Prim.Native.Nat.{suc, zero-le, ℕ, ◌*◌, ◌+◌, ◌<◌, ◌≤◌}
use native.Mathlib.Nat.{mul-suc, suc-mul, zero-add, zero-mul}
use native.Mathlib.Numerals.{add-one}
use native.Mathlib.Omega.{arith}
use lib.Dec.{eqb}
use lib.ListN.{length}
use borrow.Author.Tests.{eq-eqb, eqb-false, eqb-true, ne_eqb}
use Rattle.lists.proofs.Keep.{keep_all, keep_holds, keep_member}
use Rattle.lists.proofs.Map.{map_same}
use Rattle.lists.proofs.Once.{once_keep}
use Rattle.lists.proofs.Tab.{tab-suc}
use Rattle.lists.proofs.Tests.{clash, is, isnt, known, Known, so_not}
use Rattle.lists.specs.Lists.{at, flat, keep, Once, once_next, sum, tab, ◌∈◌}

sum_add : (f g : ℕ → ℕ) (l : List ℕ) → sum (map (λ x. f x + g x) l) ≡ sum (map f l) + sum (map g l)
sum_add f g [] = refl
sum_add f g (x ∷ xs) = omega (arith, sum_add f g xs)

sum-none : (l : List ℕ) → sum (map (λ (x : ℕ). 0) l) ≡ 0
sum-none [] = refl
sum-none (x ∷ xs) = omega (arith, sum-none xs)

-- 1 for each
pub sum_ones : (l : List ℕ) → sum (map (λ (x : ℕ). 1) l) ≡ length l
sum_ones [] = refl
sum_ones (x ∷ xs) = omega (arith, sum_ones xs)

-- v for each that passes
sum_if : (p : ℕ → Bool) (v : ℕ) (l : List ℕ) → sum (map (λ x. cond (p x) v 0) l) ≡ length (keep p l) * v
sum_if p v [] = sym (zero-mul v)
sum_if p v (x ∷ xs) = go (p x) (sum_if p v xs)
  where
    go : (b : Bool) → sum (map (λ x. cond (p x) v 0) xs) ≡ length (keep p xs) * v
        → cond b v 0 + sum (map (λ x. cond (p x) v 0) xs) ≡ length (cond b (x ∷ keep p xs) (keep p xs)) * v
    go true h = omega (arith, suc-mul (length (keep p xs)) v)
    go false h = omega arith

-- taken the other way round
pub sum_swap : (w : ℕ → ℕ) (T : ℕ → ℕ → Bool) (os ds : List ℕ) → ((d : ℕ) → d ∈ ds → length (keep (T d) os) ≡ 1)
    → sum (map (λ o. sum (map w (keep (λ d. T d o) ds))) os) ≡ sum (map w ds)
sum_swap w T os [] h = sum-none os
sum_swap w T os (d ∷ ds) h =
    let one : ℕ → ℕ = λ o. cond (T d o) (w d) 0 in
    let rest : ℕ → ℕ = λ o. sum (map w (keep (λ e. T e o) ds)) in
    let a : sum (map (λ o. sum (map w (keep (λ e. T e o) (d ∷ ds)))) os) ≡ sum (map (λ o. one o + rest o) os) =
    ap sum (map_same _ _ os (λ o m. first (T d o) (keep (λ e. T e o) ds))) in
    let b : sum (map (λ o. one o + rest o) os) ≡ sum (map one os) + sum (map rest os) = sum_add one rest os in
    let c : sum (map one os) ≡ length (keep (T d) os) * w d = sum_if (T d) (w d) os in
    let e : length (keep (T d) os) * w d ≡ 1 * w d = ap (λ (n : ℕ). n * w d) (h d (in_head refl)) in
    let f : sum (map rest os) ≡ sum (map w ds) = sum_swap w T os ds (λ x m. h x (in_Tail m)) in
    omega arith
  where
    first : (b : Bool) (l : List ℕ) → sum (map w (cond b (d ∷ l) l)) ≡ cond b (w d) 0 + sum (map w l)
    first true l = refl
    first false l = sym (zero-add (sum (map w l)))

-- the entries but x
abbrev others : ℕ → List ℕ → List ℕ
others x l = keep (λ y. not (eqb y x)) l

not_eq : (x y : ℕ) → (y ≡ x → ⊥) → not (eqb y x) ≡ true
not_eq x y n = so_not _ (ne_eqb y x n)

module _ (w : ℕ → ℕ) where
  pub sum_append : (a b : List ℕ) → sum (map w (a ++ b)) ≡ sum (map w a) + sum (map w b)
  sum_append [] b = sym (zero-add (sum (map w b)))
  sum_append (x ∷ xs) b = omega (arith, sum_append xs b)

  pub sum-flat : (f : ℕ → List ℕ) (l : List ℕ) → sum (map w (flat f l)) ≡ sum (map (λ d. sum (map w (f d))) l)
  sum-flat f [] = refl
  sum-flat f (x ∷ xs) = omega (arith, sum_append (f x) (flat f xs), sum-flat f xs)

  -- one element taken out of a list without repetition
  sum_remove : (x : ℕ) (l : List ℕ) → Once l → x ∈ l → sum (map w l) ≡ w x + sum (map w (others x l))
  sum_remove x [] o m = absurd (in-none m)
  sum_remove x (y ∷ ys) (once_next n o) m = go (known (eqb y x)) (in-cases m) (sum_remove x ys o)
    where
      none : y ≡ x → others x ys ≡ ys
      none q = keep_all _ ys (λ z i. not_eq x z (λ e. n (subst (λ (u : ℕ). u ∈ ys) (e ∙ sym q) i)))

      go : Known (eqb y x) → (x ≡ y) ⊎ (x ∈ ys) → (x ∈ ys → sum (map w ys) ≡ w x + sum (map w (others x ys)))
          → w y + sum (map w ys) ≡ w x + sum (map w (others x (y ∷ ys)))
      go (is e) i ih = let q : y ≡ x = eqb-true _ _ e in rw e (rw (q, none q))
      go (isnt e) (inl q) ih = absurd (eqb-false _ _ e (sym q))
      go (isnt e) (inr i) ih = rw e (omega (arith, ih i))

  -- two lists of the same elements, none of them twice
  pub sum_same : (a b : List ℕ) → Once a → Once b → ((x : ℕ) → x ∈ a → x ∈ b) → ((x : ℕ) → x ∈ b → x ∈ a) → sum (map w a) ≡ sum (map w b)
  sum_same [] [] o p f g = refl
  sum_same [] (y ∷ ys) o p f g = absurd (in-none (g y (in_head refl)))
  sum_same (x ∷ xs) b (once_next n o) p f g =
      ap (λ (z : ℕ). w x + z)
      (sum_same xs (others x b) o (once_keep _ b p)
      (λ y m. keep_holds _ (f y (in_Tail m)) (not_eq x y (λ e. n (subst (λ (z : ℕ). z ∈ xs) e m))))
      (λ y m. pick y (keep_member (λ z. not (eqb z x)) b m) (in-cases (g y (keep_member (λ z. not (eqb z x)) b m).0))))
      ∙ sym (sum_remove x b p (f x (in_head refl)))
    where
      pick : (y : ℕ) → (y ∈ b) × (not (eqb y x) ≡ true) → (y ≡ x) ⊎ (y ∈ xs) → y ∈ xs
      pick y k (inl e) = absurd (clash (eqb y x) (eq-eqb _ _ e) k.1)
      pick y k (inr m) = m

  pub sum-most : (b : ℕ) (l : List ℕ) → ((x : ℕ) → x ∈ l → w x ≤ b) → sum (map w l) ≤ b * length l
  sum-most b [] h = zero-le
  sum-most b (x ∷ xs) h = omega (arith, h x (in_head refl), sum-most b xs (λ y m. h y (in_Tail m)), mul-suc b (length xs))

-- a list whose entries are at most b
pub sum-most-at : (b : ℕ) (l : List ℕ) → ((k : ℕ) → k < length l → at l k ≤ b) → sum l ≤ b * length l
sum-most-at b [] h = zero-le
sum-most-at b (x ∷ xs) h =
    let first : x ≤ b = h 0 (omega arith) in
    omega (arith, sum-most-at b xs (λ k l. h (suc k) (omega arith)), mul-suc b (length xs))

module _ (f : ℕ → ℕ) (p : ℕ → Bool) where
  pub sum-keep_le : (l : List ℕ) → sum (map f (keep p l)) ≤ sum (map f l)
  sum-keep_le [] = omega arith
  sum-keep_le (x ∷ xs) = go (p x) (sum-keep_le xs)
    where
      go : (b : Bool) → sum (map f (keep p xs)) ≤ sum (map f xs) → sum (map f (cond b (x ∷ keep p xs) (keep p xs))) ≤ f x + sum (map f xs)
      go true h = omega arith
      go false h = omega arith

  -- what isn't kept counts nothing
  pub sum-keep-all : (l : List ℕ) → ((x : ℕ) → x ∈ l → p x ≡ false → f x ≡ 0) → sum (map f (keep p l)) ≡ sum (map f l)
  sum-keep-all [] h = refl
  sum-keep-all (x ∷ xs) h = go (p x) refl (sum-keep-all xs (λ y m. h y (in_Tail m)))
    where
      go : (b : Bool) → p x ≡ b → sum (map f (keep p xs)) ≡ sum (map f xs) → sum (map f (cond b (x ∷ keep p xs) (keep p xs))) ≡ f x + sum (map f xs)
      go true e ih = omega arith
      go false e ih = let z : f x ≡ 0 = h x (in_head refl) e in omega arith

-- less at every place
sum_le : (f g : ℕ → ℕ) (l : List ℕ) → ((x : ℕ) → x ∈ l → f x < g x) → sum (map f l) ≤ sum (map g l)
sum_le f g [] h = omega arith
sum_le f g (x ∷ xs) h =
    let a : f x < g x = h x (in_head refl) in
    let b : sum (map f xs) ≤ sum (map g xs) = sum_le f g xs (λ y m. h y (in_Tail m)) in
    omega arith

pub sum_less : (f g : ℕ → ℕ) (l : List ℕ) → ((x : ℕ) → x ∈ l → f x < g x) → 0 < length l → sum (map f l) < sum (map g l)
sum_less f g [] h n = absurd (omega arith)
sum_less f g (x ∷ xs) h n =
    let a : f x < g x = h x (in_head refl) in
    let b : sum (map f xs) ≤ sum (map g xs) = sum_le f g xs (λ y m. h y (in_Tail m)) in
    omega arith

-- a turn of a loop that adds: one entry more
sum-last : (l : List ℕ) (x : ℕ) → sum (l ++ (x ∷ [])) ≡ sum l + x
sum-last [] x = omega arith
sum-last (y ∷ ys) x = omega (arith, sum-last ys x)

pub sum-next : (f : ℕ → ℕ) (n : ℕ) → sum (tab n f) + f n ≡ sum (tab (n + 1) f)
sum-next f n = rw add-one (sym (sum-last (tab n f) (f n)) ∙ ap sum (sym (tab-suc f n)))
