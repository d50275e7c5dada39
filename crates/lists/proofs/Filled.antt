-- Lists whose first entries were filled from a function.
-- Assumes nothing.
use mathlib.Core.List.{List, ◌++◌}
use mathlib.Core.Logic.{inl, inr, ◌⊎◌}
use mathlib.Core.Path.{ap, refl, sym, ◌∙◌, ◌≡◌}
use Prim.Native.Nat.{ℕ, ◌+◌, ◌<◌, ◌≤◌}
use lib.ListN.{drop, length, set, take}
use lib.Seq.{ext_get_or}
use Rattle.lists.proofs.Overwrite.{overwrite_again, overwrite-at, overwrite-is, overwrite-length, overwrite_past}
use Rattle.lists.proofs.Overwrite.{overwrite-tab, overwrite-take}
use Rattle.lists.proofs.Tab.{tab-at, tab-length, tab_same}
use Rattle.lists.proofs.Tests.{lt_or_ge}
use Rattle.lists.specs.Lists.{at, filled, overwrite, tab}

module _ {A : Type 0} where
  filled_is : (f : ℕ → A) (n : ℕ) (old : List A) → filled f n old ≡ tab n f ++ drop n old
  unfolding filled
  filled_is f n old = sym (overwrite-is (tab n f) old n (tab-length f n) refl)

  pub filled_none : (f : ℕ → A) (old : List A) → filled f 0 old ≡ old
  unfolding filled
  filled_none f old = refl

  pub filled-length : (f : ℕ → A) (n : ℕ) (old : List A) → n ≤ length old → length (filled f n old) ≡ length old
  unfolding filled
  filled-length f n old h = overwrite-length (tab n f) old (rw (tab-length f n) h)

  pub filled-take : {x : List A} (f : ℕ → A) (n : ℕ) (old : List A) → x ≡ filled f n old → take n x ≡ tab n f
  unfolding filled
  filled-take f n old e = overwrite-take (tab n f) old n (tab-length f n) e

  -- a turn of a loop: one entry more
  pub filled_next : (f : ℕ → A) (n : ℕ) (old : List A) → n < length old → set (filled f n old) n (f n) ≡ filled f (n + 1) old
  filled_next f n old h = rw (filled_is f n old, filled_is f (n + 1) old) (overwrite-tab f old n h)

  -- the same by equations
  pub filled_put : (f : ℕ → A) (n m : ℕ) (old : List A) {out : List A} {i : ℕ} {v : A} → n < length old → out ≡ filled f n old → i ≡ n → v ≡ f n
      → m ≡ n + 1 → set out i v ≡ filled f m old
  filled_put f n m old h e q d s = rw (e, q, d, s) (filled_next f n old h)

  -- from functions that agree
  pub filled_same : (f g : ℕ → A) (n : ℕ) (old : List A) → ((i : ℕ) → i < n → f i ≡ g i) → filled f n old ≡ filled g n old
  unfolding filled
  filled_same f g n old h = ap (λ (l : List A). overwrite l old) (tab_same f g n h)

  -- where n entries were stored before
  pub filled-onto : (f : ℕ → A) (n : ℕ) (mid old : List A) → length mid ≡ n → filled f n (overwrite mid old) ≡ filled f n old
  unfolding filled
  filled-onto f n mid old e = overwrite_again (tab n f) mid old (e ∙ sym (tab-length f n))

  -- twice
  pub filled_again : (f g : ℕ → A) (n : ℕ) (old : List A) → filled f n (filled g n old) ≡ filled f n old
  unfolding filled
  filled_again f g n old = filled-onto f n (tab n g) old (tab-length g n)

  -- over lists that are one past n
  pub filled_over : (f : ℕ → A) (n : ℕ) (a b : List A) → drop n a ≡ drop n b → filled f n a ≡ filled f n b
  filled_over f n a b e = rw (filled_is f n a, filled_is f n b, e)

-- an entry that was filled, and one past them
pub filled_at : (f : ℕ → ℕ) (n : ℕ) (old : List ℕ) (i : ℕ) → i < n → at (filled f n old) i ≡ f i
unfolding filled
filled_at f n old i h = overwrite-at (tab n f) old i 0 (rw (tab-length f n) h) ∙ tab-at f n i 0 h

pub filled_past : (f : ℕ → ℕ) (n : ℕ) (old : List ℕ) (i : ℕ) → n ≤ i → at (filled f n old) i ≡ at old i
unfolding filled
filled_past f n old i h = overwrite_past (tab n f) old i 0 (rw (tab-length f n) h)

-- a list is filled where its first n entries are f's and the others are as they were
pub filled-by : (f : ℕ → ℕ) (n : ℕ) (old l : List ℕ) → n ≤ length old → length l ≡ length old
    → ((i : ℕ) → i < n → at l i ≡ f i) → ((i : ℕ) → n ≤ i → at l i ≡ at old i) → l ≡ filled f n old
filled-by f n old l h s v u = ext_get_or 0 l (filled f n old) (s ∙ sym (filled-length f n old h)) (λ i m. go i (lt_or_ge i n))
  where
    go : (i : ℕ) → (i < n) ⊎ (n ≤ i) → at l i ≡ at (filled f n old) i
    go i (inl k) = v i k ∙ sym (filled_at f n old i k)
    go i (inr k) = u i k ∙ sym (filled_past f n old i k)
