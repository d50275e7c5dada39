-- What a test keeps of a list: its members, its parts, and how many there are.
-- Assumes nothing.
use mathlib.Core.Bool.{Bool, cond, false, false≢true, true, true≢false}
use mathlib.Core.List.Memᴰ.{cases_cons as in-cases}
use mathlib.Core.List.Memᴰ.{head as in_head}
use mathlib.Core.List.Memᴰ.{not-nil as in-none}
use mathlib.Core.List.{[], List}
use mathlib.Core.List.Memᴰ.{tail as in_Tail}
use mathlib.Core.List.{map, ◌++◌, ◌∷◌}
use mathlib.Core.Logic.{inl, inr, ◌⊎◌}
use mathlib.Core.Path.{ap, refl, subst, sym, ◌∙◌, ◌≡◌}
use Prim.Native.Nat.{suc, zero, ℕ, ◌+◌, ◌<◌, ◌≤◌}
use native.Mathlib.Nat.{eq-or-lt_of_le}
use native.Mathlib.Omega.{arith}
use lib.Dec.{eqb}
use lib.ListN.{length}
use borrow.Author.Tests.{eq-eqb, ne_eqb}
use Rattle.lists.proofs.Tests.{is, isnt, Known, known}
use Rattle.lists.specs.Lists.{keep, range, ◌∈◌}

module _ {A : Type 0} where
  -- members, both ways; b is the test's answer at the list's head
  pub keep_member : (p : A → Bool) (l : List A) {x : A} → x ∈ keep p l → (x ∈ l) × (p x ≡ true)
  keep_member p [] h = absurd (in-none h)
  keep_member p (y ∷ ys) {x} h = go (p y) refl h (keep_member p ys)
    where
      found : p y ≡ true → (x ∈ keep p ys → (x ∈ ys) × (p x ≡ true)) → (x ≡ y) ⊎ (x ∈ keep p ys) → (x ∈ y ∷ ys) × (p x ≡ true)
      found e ih (inl q) = (in_head q, ap p q ∙ e)
      found e ih (inr m) = (in_Tail (ih m).0, (ih m).1)

      go : (b : Bool) → p y ≡ b → x ∈ cond b (y ∷ keep p ys) (keep p ys) → (x ∈ keep p ys → (x ∈ ys) × (p x ≡ true))
          → (x ∈ y ∷ ys) × (p x ≡ true)
      go true e m ih = found e ih (in-cases m)
      go false e m ih = (in_Tail (ih m).0, (ih m).1)

  pub keep_holds : (p : A → Bool) {x : A} {l : List A} → x ∈ l → p x ≡ true → x ∈ keep p l
  keep_holds p (in_head {x = y} {xs = ys} q) e = rw (sym (ap p q) ∙ e) (in_head q)
  keep_holds p {x = a} (in_Tail {x = y} {xs = ys} m) e = go (p y) (keep_holds p m e)
    where
      go : (b : Bool) → a ∈ keep p ys → a ∈ cond b (y ∷ keep p ys) (keep p ys)
      go true h = in_Tail h
      go false h = h

  pub keep_append : (p : A → Bool) (a b : List A) → keep p (a ++ b) ≡ keep p a ++ keep p b
  keep_append p [] b = refl
  keep_append p (x ∷ xs) b = go (p x) (keep_append p xs b)
    where
      go : (t : Bool) → keep p (xs ++ b) ≡ keep p xs ++ keep p b
          → cond t (x ∷ keep p (xs ++ b)) (keep p (xs ++ b)) ≡ cond t (x ∷ keep p xs) (keep p xs) ++ keep p b
      go true e = ap (λ (l : List A). x ∷ l) e
      go false e = e

  -- tests that agree on the list
  pub keep_same : (p q : A → Bool) (l : List A) → ((x : A) → x ∈ l → p x ≡ q x) → keep p l ≡ keep q l
  keep_same p q [] h = refl
  keep_same p q (x ∷ xs) h = rw (h x (in_head refl), keep_same p q xs (λ y m. h y (in_Tail m)))

  -- all pass
  pub keep_all : (p : A → Bool) (l : List A) → ((x : A) → x ∈ l → p x ≡ true) → keep p l ≡ l
  keep_all p [] h = refl
  keep_all p (x ∷ xs) h = rw (h x (in_head refl), keep_all p xs (λ y m. h y (in_Tail m)))

  -- none passes
  pub keep-none : (p : A → Bool) (l : List A) → ((x : A) → x ∈ l → p x ≡ false) → keep p l ≡ []
  keep-none p [] h = refl
  keep-none p (x ∷ xs) h = rw (h x (in_head refl)) (keep-none p xs (λ y m. h y (in_Tail m)))

  -- kept twice: what passes the first test passes the second
  keep_twice : (p q : A → Bool) (l : List A) → ((x : A) → x ∈ l → p x ≡ true → q x ≡ true) → keep p l ≡ keep p (keep q l)
  keep_twice p q [] f = refl
  keep_twice p q (x ∷ xs) f = go (known (p x)) (known (q x)) (keep_twice p q xs (λ y m. f y (in_Tail m)))
    where
      go : Known (p x) → Known (q x) → keep p xs ≡ keep p (keep q xs)
          → cond (p x) (x ∷ keep p xs) (keep p xs) ≡ keep p (cond (q x) (x ∷ keep q xs) (keep q xs))
      go (is t) (is s) ih = rw (t, s) (rw t (ap (λ (z : List A). x ∷ z) ih))
      go (is t) (isnt s) ih = absurd (false≢true (sym s ∙ f x (in_head refl) t))
      go (isnt t) (is s) ih = rw (t, s) (rw t ih)
      go (isnt t) (isnt s) ih = rw (t, s) ih

  -- how many pass: no more than there are, and fewer if one doesn't
  pub keep-length : (p : A → Bool) (l : List A) → length (keep p l) ≤ length l
  keep-length p [] = omega arith
  keep-length p (y ∷ ys) = go (p y) (keep-length p ys)
    where
      go : (b : Bool) → length (keep p ys) ≤ length ys → length (cond b (y ∷ keep p ys) (keep p ys)) ≤ suc (length ys)
      go true h = omega arith
      go false h = omega arith

  pub keep-length-drop : (p : A → Bool) {x : A} {l : List A} → x ∈ l → p x ≡ false → length (keep p l) < length l
  keep-length-drop p (in_head {x = y} {xs = ys} e) n = rw (sym (ap p e) ∙ n) (omega (arith, keep-length p ys))
  keep-length-drop p (in_Tail {x = y} {xs = ys} m) n = go (p y) (keep-length-drop p m n)
    where
      go : (b : Bool) → length (keep p ys) < length ys → length (cond b (y ∷ keep p ys) (keep p ys)) < suc (length ys)
      go true h = omega arith
      go false h = omega arith

  -- no more pass a stronger test, and fewer if one element makes the difference
  pub keep-length_le : (p q : A → Bool) (l : List A) → ((x : A) → p x ≡ true → q x ≡ true) → length (keep p l) ≤ length (keep q l)
  keep-length_le p q l f =
      subst (λ (k : List A). length k ≤ length (keep q l)) (sym (keep_twice p q l (λ x m. f x))) (keep-length p (keep q l))

  pub keep-length_lt : (p q : A → Bool) {l : List A} {x : A} → ((y : A) → p y ≡ true → q y ≡ true) → x ∈ l → p x ≡ false → q x ≡ true
      → length (keep p l) < length (keep q l)
  keep-length_lt p q {l} f m n t =
      subst (λ (k : List A). length k < length (keep q l)) (sym (keep_twice p q l (λ x i. f x))) (keep-length-drop p (keep_holds q m t) n)

-- one number stands once among those of a range that pass
none_below : (p : ℕ → Bool) (e n k : ℕ) → e < k → length (keep (eqb e) (keep p (range k n))) ≡ 0
none_below p e zero k h = refl
none_below p e (suc n) k h = go (p k) (none_below p e n (suc k) (omega arith))
  where
    go : (b : Bool) → length (keep (eqb e) (keep p (range (suc k) n))) ≡ 0
        → length (keep (eqb e) (cond b (k ∷ keep p (range (suc k) n)) (keep p (range (suc k) n)))) ≡ 0
    go true ih = rw (ne_eqb e k (λ q. omega arith)) ih
    go false ih = ih

pub keep-single : (p : ℕ → Bool) (e n k : ℕ) → p e ≡ true → k ≤ e → e < k + n → length (keep (eqb e) (keep p (range k n))) ≡ 1
keep-single p e zero k t h l = absurd (omega arith)
keep-single p e (suc n) k t h l = go (p k) refl (eq-or-lt_of_le h) (keep-single p e n (suc k) t)
  where
    K : List ℕ
    K = keep p (range (suc k) n)

    go : (b : Bool) → p k ≡ b → (k ≡ e) ⊎ (k < e) → (suc k ≤ e → e < suc k + n → length (keep (eqb e) K) ≡ 1)
        → length (keep (eqb e) (cond b (k ∷ K) K)) ≡ 1
    go true q (inl i) ih = rw (eq-eqb e k (sym i)) (ap suc (none_below p e n (suc k) (omega arith)))
    go false q (inl i) ih = absurd (true≢false (sym t ∙ ap p (sym i) ∙ q))
    go true q (inr i) ih = rw (ne_eqb e k (λ z. omega arith)) (ih i (omega arith))
    go false q (inr i) ih = ih i (omega arith)

-- a test of what entries are made into
pub keep-map : {A B : Type 0} (f : A → B) (t : B → Bool) (l : List A) → map f (keep (λ x. t (f x)) l) ≡ keep t (map f l)
keep-map f t [] = refl
keep-map {A} {B} f t (x ∷ xs) = go (t (f x)) (keep-map f t xs)
  where
    go : (b : Bool) → map f (keep (λ y. t (f y)) xs) ≡ keep t (map f xs)
        → map f (cond b (x ∷ keep (λ y. t (f y)) xs) (keep (λ y. t (f y)) xs)) ≡ cond b (f x ∷ keep t (map f xs)) (keep t (map f xs))
    go true e = ap (λ (l : List B). f x ∷ l) e
    go false e = e
