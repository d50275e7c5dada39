-- Roots: following the entries ends at one, and what setting an entry does to all roots.
-- Assumes nothing.
use mathlib.Core.List.{append-nil, List}
use mathlib.Core.Logic.{inl, inr, ◌⊎◌}
use mathlib.Core.Path.{ap, refl, subst, sym, ◌∙◌, ◌≡◌}
use Prim.Native.Nat.{suc, zero, ℕ, ◌<◌, ◌≤◌}
use native.Mathlib.Nat.{eq-or-lt_of_le, le_refl, le_trans}
use native.Mathlib.Omega.{arith}
use lib.Dec.{eqb}
use lib.ListN.{length, get_or-eq_default, set}
use lib.Seq.{drop-length, get_or-set_other, get_or-set_same}
use borrow.Author.Tests.{eqb-false, eqb-true}
use Rattle.groups.specs.Groups.{Down, root_of}
use Rattle.lists.proofs.Range.{range_length, upto-at}
use Rattle.lists.proofs.Repeat.{repeat_fixed}
use Rattle.lists.proofs.Tests.{is, isnt, Known, known, lt_or_ge}
use Rattle.std.proofs.lemmas.List.{map-id}
use Rattle.lists.specs.Lists.{at, filled, repeat, upto}

module _ (g : List ℕ) (d : Down g) where
  -- b or more steps from b end at one place, which names itself
  settled : (k b : ℕ) → b ≤ k → at g (repeat k (at g) b) ≡ repeat k (at g) b
  settled zero b h = let e : at g b ≤ b = d b in omega arith
  settled (suc k) b h = go (eq-or-lt_of_le (d b)) (settled k (at g b))
    where
      go : (at g b ≡ b) ⊎ (at g b < b) → (at g b ≤ k → at g (repeat k (at g) (at g b)) ≡ repeat k (at g) (at g b))
          → at g (repeat k (at g) (at g b)) ≡ repeat k (at g) (at g b)
      go (inl e) ih =
          let f : repeat k (at g) (at g b) ≡ b = ap (repeat k (at g)) e ∙ repeat_fixed (at g) k b e in
          ap (at g) f ∙ e ∙ sym f
      go (inr l) ih = ih (omega arith)

  agree : (j k b : ℕ) → b ≤ j → b ≤ k → repeat j (at g) b ≡ repeat k (at g) b
  agree zero zero b h i = refl
  agree zero (suc k) b h i = let e : at g b ≤ b = d b in sym (repeat_fixed (at g) (suc k) b (omega arith))
  agree (suc j) zero b h i = let e : at g b ≤ b = d b in repeat_fixed (at g) (suc j) b (omega arith)
  agree (suc j) (suc k) b h i = go (eq-or-lt_of_le (d b)) (agree j k (at g b))
    where
      go : (at g b ≡ b) ⊎ (at g b < b) → (at g b ≤ j → at g b ≤ k → repeat j (at g) (at g b) ≡ repeat k (at g) (at g b))
          → repeat j (at g) (at g b) ≡ repeat k (at g) (at g b)
      go (inl e) ih = repeat_fixed (at g) (suc j) b e ∙ sym (repeat_fixed (at g) (suc k) b e)
      go (inr l) ih = ih (omega arith) (omega arith)

  -- a root names itself
  pub root_is : (b : ℕ) → at g (root_of g b) ≡ root_of g b
  unfolding root_of
  root_is b = settled b b (le_refl b)

  -- and what names itself is a root
  pub root_self : (b : ℕ) → at g b ≡ b → root_of g b ≡ b
  unfolding root_of
  root_self b e = repeat_fixed (at g) b b e

  -- a step keeps the root
  pub root_step : (b : ℕ) → root_of g (at g b) ≡ root_of g b
  unfolding root_of
  root_step b = agree (at g b) b (at g b) (le_refl (at g b)) (d b) ∙ agree (suc b) b b (omega arith) (le_refl b)

  lowered : (k b : ℕ) → repeat k (at g) b ≤ b
  lowered zero b = le_refl b
  lowered (suc k) b = le_trans (lowered k (at g b)) (d b)

  -- a root is no greater than any basin of its group
  pub root_below : (b : ℕ) → root_of g b ≤ b
  unfolding root_of
  root_below b = lowered b b

  -- any numbering that follows the entries and keeps the roots is the roots
  module _ (r : ℕ → ℕ) (fix : (x : ℕ) → at g x ≡ x → r x ≡ x) (step : (x : ℕ) → r (at g x) ≡ r x) where
    carried : (k x : ℕ) → r (repeat k (at g) x) ≡ r x
    carried zero x = refl
    carried (suc k) x = carried k (at g x) ∙ step x

    only_roots : (x : ℕ) → root_of g x ≡ r x
    unfolding root_of
    only_roots x = sym (fix (repeat x (at g) x) (settled x x (le_refl x))) ∙ carried x x

-- an entry set to something no greater than its place
pub down_set : (g : List ℕ) (i v : ℕ) → Down g → i < length g → v ≤ i → Down (set g i v)
down_set g i v d h l x = go (known (eqb x i))
  where
    go : Known (eqb x i) → at (set g i v) x ≤ x
    go (is e) =
        let q : x ≡ i = eqb-true _ _ e in
        subst (λ (y : ℕ). at (set g i v) y ≤ y) (sym q) (subst (λ (w : ℕ). w ≤ i) (sym (get_or-set_same g i v 0 h)) l)
    go (isnt e) = subst (λ (w : ℕ). w ≤ x) (sym (get_or-set_other g i x v 0 (eqb-false _ _ e))) (d x)

-- the roots once an entry is set: a numbering r that follows the new entry at its place and the old ones elsewhere
module _ (g : List ℕ) (d : Down g) (i v : ℕ) (h : i < length g) (l : v ≤ i) (r : ℕ → ℕ)
    (fix : (x : ℕ) → (x ≡ i → ⊥) → at g x ≡ x → r x ≡ x) (fix-i : v ≡ i → r i ≡ i)
    (step : (x : ℕ) → (x ≡ i → ⊥) → r (at g x) ≡ r x) (step-i : r v ≡ r i) where
  pub roots-set : (x : ℕ) → root_of (set g i v) x ≡ r x
  roots-set = only_roots (set g i v) (down_set g i v d h l) r (λ x e. go (known (eqb x i)) e) (λ x. move (known (eqb x i)))
    where
      go : {x : ℕ} → Known (eqb x i) → at (set g i v) x ≡ x → r x ≡ x
      go {x} (is t) e =
          let q : x ≡ i = eqb-true _ _ t in
          ap r q ∙ fix-i (sym (get_or-set_same g i v 0 h) ∙ ap (at (set g i v)) (sym q) ∙ e ∙ q) ∙ sym q
      go {x} (isnt t) e = fix x (eqb-false _ _ t) (sym (get_or-set_other g i x v 0 (eqb-false _ _ t)) ∙ e)

      move : {x : ℕ} → Known (eqb x i) → r (at (set g i v) x) ≡ r x
      move {x} (is t) =
          let q : x ≡ i = eqb-true _ _ t in
          ap (λ (y : ℕ). r (at (set g i v) y)) q ∙ ap r (get_or-set_same g i v 0 h) ∙ step-i ∙ ap r (sym q)
      move {x} (isnt t) = ap r (get_or-set_other g i x v 0 (eqb-false _ _ t)) ∙ step x (eqb-false _ _ t)

-- an entry hung one step higher: all roots stay
pub halved : (g : List ℕ) → Down g → (i : ℕ) → i < length g → (x : ℕ) → root_of (set g i (at g (at g i))) x ≡ root_of g x
halved g d i h =
    roots-set g d i (at g (at g i)) h (le_trans (d (at g i)) (d i)) (root_of g)
    (λ x n e. root_self g d x e)
    (λ e. root_self g d i (let a : at g (at g i) ≤ at g i = d (at g i) in let b : at g i ≤ i = d i in omega arith))
    (λ x n. root_step g d x)
    (root_step g d (at g i) ∙ root_step g d i)

-- each basin alone
pub alone_filled : (g : List ℕ) → filled (λ b. b) (length g) g ≡ upto (length g)
unfolding filled
alone_filled g = rw (map-id (upto (length g)), range_length (length g) 0, drop-length) (append-nil (upto (length g)))

-- no entry is above its place, and each basin is its own root
pub alone_down : (n : ℕ) → Down (upto n)
alone_down n b = go (lt_or_ge b n)
  where
    go : (b < n) ⊎ (n ≤ b) → at (upto n) b ≤ b
    go (inl h) = subst (λ (v : ℕ). v ≤ b) (sym (upto-at n b h)) (le_refl b)
    go (inr h) =
        let e : at (upto n) b ≡ 0 = get_or-eq_default (upto n) 0 (subst (λ (k : ℕ). k ≤ b) (sym (range_length n 0)) h) in
        omega arith

pub alone-root : (n b : ℕ) → b < n → root_of (upto n) b ≡ b
alone-root n b h = root_self (upto n) (alone_down n) b (upto-at n b h)
